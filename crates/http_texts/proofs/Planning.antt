-- The plan of an answer, by the short form of its framing fields.
use Rattle.std.proofs.Common.{◌≡◌, ◌∙◌, ℕ, ◌==◌, Bool, true, false, cond, List, [], ◌∷◌, Option, Some, None, codes, refl, sym, ap}
use Rattle.std.specs.Prelude.{◌||◌, option_map}
use Rattle.std.specs.Str.{bytes_eq}
use Rattle.http_bodies.specs.declared.framing.Framing.TheVariants as Framed
use Rattle.http_texts.specs.Fields.{parts_of}
use Rattle.http_texts.specs.Framings as framings
use Rattle.http_texts.specs.Framings.{common, is_chunked, bare, is_interim, by_status, answer_plan}
use Rattle.http_texts.specs.Summaries as summaries
use Rattle.http_texts.specs.Summaries.{stated_coding, count_or_fault, stated_of, same_plan, plan_of}
use Rattle.http_texts.specs.declared.framings.StatedCoding.{StatedCoding}
use Rattle.http_texts.specs.declared.framings.StatedCoding.TheVariants as Coded
use Rattle.http_texts.specs.declared.framings.Stated.{Stated}
use Rattle.http_texts.specs.declared.plans.Plan.{Plan}
use Rattle.http_texts.proofs.Lengths.{framing_same}
use Rattle.req_view.specs.Answer.{Answer}
use Rattle.req_view.specs.Request.{values_of}
use Rattle.req_view.specs.declared.version.Version.{Version}
use Rattle.req_view.specs.declared.version.Version.TheVariants.{Http10, Http11}

stating_option : (o : Option ℕ) → summaries.stating (count_or_fault o) ≡ option_map (λ count. record { body = Framed.Empty; stated = Framed.Length count }) o
stating_option None = refl
stating_option (Some count) = refl

stating_same : (lengths : List (List ℕ)) → summaries.stating (stated_of lengths) ≡ framings.stating lengths
stating_same [] = refl
stating_same (part ∷ more) = stating_option (common (part ∷ more))

plan_same : (status : ℕ) (to_head : Bool) (version : Version) (transfer_codings lengths : List (List ℕ))
    → plan_of status to_head version (stated_coding transfer_codings) (stated_of lengths) ≡ by_status status to_head version transfer_codings lengths
plan_same status to_head version transfer_codings lengths = λ i.
    cond (is_interim status) (Some bare)
    (cond (status == 204) (Some bare)
    (cond (to_head || (status == 304)) (stating_same lengths i) (option_map same_plan (framing_same version Framed.ToEnd transfer_codings lengths i))))

refused_old : (status : ℕ) (b : Bool) → summaries.is_refused status Http10 (cond b Coded.Chunked Coded.Other) ≡ true
refused_old status true = refl
refused_old status false = refl

refused_new : (status : ℕ) (b : Bool) → summaries.is_refused status Http11 (cond b Coded.Chunked Coded.Other) ≡ (status == 101)
refused_new status true = refl
refused_new status false = refl

refused_same : (status : ℕ) (version : Version) (transfer_codings : List (List ℕ))
    → summaries.is_refused status version (stated_coding transfer_codings) ≡ framings.is_refused status version transfer_codings
refused_same status Http10 [] = refl
refused_same status Http11 [] = refl
refused_same status Http10 (coding ∷ []) = refused_old status (is_chunked coding)
refused_same status Http11 (coding ∷ []) = refused_new status (is_chunked coding)
refused_same status Http10 (coding ∷ other ∷ transfer_codings) = refl
refused_same status Http11 (coding ∷ other ∷ transfer_codings) = refl

pub plan_is : (method : List ℕ) (a : Answer) (result : Option Plan) (status other : ℕ) (to_head : Bool) (version later : Version) (coding : StatedCoding)
    (stated : Stated)
    → status ≡ a.status → version ≡ a.version → coding ≡ stated_coding (values_of (codes "Transfer-Encoding") a.fields)
    → false ≡ summaries.is_refused status version coding
    → other ≡ a.status → later ≡ a.version → to_head ≡ bytes_eq method (codes "HEAD") → stated ≡ stated_of (parts_of (codes "Content-Length") a.fields)
    → result ≡ plan_of other to_head later coding stated → result ≡ answer_plan method a
plan_is method a result status other to_head version later coding stated s v c taken o l h d is =
    let transfer_codings = values_of (codes "Transfer-Encoding") a.fields in
    let lengths = parts_of (codes "Content-Length") a.fields in
    let not_refused : framings.is_refused a.status a.version transfer_codings ≡ false =
    sym (taken ∙ (λ i. summaries.is_refused (s i) (v i) (c i)) ∙ refused_same a.status a.version transfer_codings) in
    is
    ∙ (λ i. plan_of (o i) (h i) (l i) (c i) (d i))
    ∙ plan_same a.status (bytes_eq method (codes "HEAD")) a.version transfer_codings lengths
    ∙ sym (ap (λ b. cond b None (by_status a.status (bytes_eq method (codes "HEAD")) a.version transfer_codings lengths)) not_refused)
