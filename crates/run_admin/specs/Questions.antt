-- What a client's bytes ask for.
use Rattle.std.specs.Prelude.{◌≡◌, ℕ, List, Option, Bool, codes, take, position, ◌==◌, if◌then◌else◌, ⊤}
use Rattle.std.specs.Option.{option_map_or}
use Rattle.std.specs.Str.{bytes_eq}
use Rattle.httparse.specs.Grammar.{RequestHead, ReadsRequest, HasNoRequest, MayBecomeRequest}
use Rattle.run_admin.specs.declared.question.Method.{Method}
use Rattle.run_admin.specs.declared.question.Method.TheVariants.{Get, Head, Other}
use Rattle.run_admin.specs.declared.question.Question.{Question}
use Rattle.run_admin.specs.declared.question.Asked.{Asked}
use Rattle.run_admin.specs.declared.question.Asked.TheVariants.{Whole, Part, Nothing}

abbrev pub method_of : List ℕ → Method
method_of word = if bytes_eq word (codes "GET") then Get else if bytes_eq word (codes "HEAD") then Head else Other

abbrev pub is_question_mark : ℕ → Bool
is_question_mark byte = byte == 63

-- the part of a request target before its first question mark
abbrev pub path_of : List ℕ → List ℕ
path_of target = option_map_or (λ end. take end target) (position is_question_mark target) target

-- a head stands at the front of the bytes and asks this question
pub record Asks (bytes : List ℕ) (question : Question) : Type 0 where
  pub head : RequestHead
  pub rest : List ℕ
  pub reads : ReadsRequest bytes head rest
  pub method : question.method ≡ method_of head.method
  pub path : question.path.now ≡ path_of head.target

-- what each answer of the reader says of the client's bytes
abbrev pub Says : List ℕ → Asked → Type 0
Says bytes (Whole question) = Asks bytes question
Says bytes Part = HasNoRequest bytes × MayBecomeRequest bytes
Says bytes Nothing = ⊤

-- a question was found
abbrev pub QuestionIsWhole : Asked → Type 0
QuestionIsWhole (Whole question) = ⊤
QuestionIsWhole Part = ⊥
QuestionIsWhole Nothing = ⊥
