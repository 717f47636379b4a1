-- The framing fields of a head, summarized.
use Rattle.std.specs.Prelude.{ℕ, Bool, true, ◌==◌, ◌||◌, List, [], ◌∷◌, if◌then◌else◌, Option, Some, None, option_map}
use Rattle.http_bodies.specs.declared.framing.Framing.{Framing}
use Rattle.http_bodies.specs.declared.framing.Framing.TheVariants as Framed
use Rattle.http_texts.specs.Framings.{is_chunked, common, bare, is_interim}
use Rattle.http_texts.specs.declared.framings.StatedCoding.{StatedCoding}
use Rattle.http_texts.specs.declared.framings.StatedCoding.TheVariants as Coded
use Rattle.http_texts.specs.declared.framings.Stated.{Stated}
use Rattle.http_texts.specs.declared.framings.Stated.TheVariants.{Absent, Count, Faulty}
use Rattle.http_texts.specs.declared.plans.Plan.{Plan}
use Rattle.req_view.specs.declared.version.Version.{Version}
use Rattle.req_view.specs.declared.version.Version.TheVariants.{Http10, Http11}

-- the values of Transfer-Encoding, summarized
abbrev pub stated_coding : List (List ℕ) → StatedCoding
stated_coding [] = Coded.Absent
stated_coding (coding ∷ []) = if is_chunked coding then Coded.Chunked else Coded.Other
stated_coding (coding ∷ other ∷ transfer_codings) = Coded.Other

abbrev pub count_or_fault : Option ℕ → Stated
count_or_fault None = Faulty
count_or_fault (Some count) = Count count

-- the parts of Content-Length, summarized
abbrev pub stated_of : List (List ℕ) → Stated
stated_of [] = Absent
stated_of (part ∷ more) = count_or_fault (common (part ∷ more))

-- the framing by both
abbrev pub framing_of : Version → Framing → StatedCoding → Stated → Option Framing
framing_of version unstated Coded.Absent Absent = Some unstated
framing_of version unstated Coded.Absent (Count count) = Some (Framed.Length count)
framing_of Http11 unstated Coded.Chunked Absent = Some Framed.Chunked
framing_of version unstated coding stated = None

-- a length in an answer without a body
abbrev pub stating : Stated → Option Plan
stating Absent = Some bare
stating (Count count) = Some (record { body = Framed.Empty; stated = Framed.Length count })
stating Faulty = None

abbrev pub same_plan : Framing → Plan
same_plan framing = record { body = framing; stated = framing }

-- an answer's plan
abbrev pub plan_of : ℕ → Bool → Version → StatedCoding → Stated → Option Plan
plan_of status to_head version coding stated =
    if is_interim status then Some bare
    else if status == 204 then Some bare
    else if to_head || (status == 304) then stating stated
    else option_map same_plan (framing_of version Framed.ToEnd coding stated)

-- a head that the proxy refuses
abbrev pub is_refused : ℕ → Version → StatedCoding → Bool
is_refused status Http10 Coded.Chunked = true
is_refused status Http10 Coded.Other = true
is_refused status version coding = status == 101
