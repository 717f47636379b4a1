-- A line that asks for a pin has its number, and leaves the draft.
use Rattle.std.proofs.Common.{◌≡◌, ℕ, Bool, not, List, [], ◌∷◌, Option, Some, None, false, Result, Ok, Err, inl, inr, refl, sym, ap, subst}
use Rattle.std.specs.Option.{ok_or}
use Rattle.std.specs.List.{list_any}
use Rattle.proxy_words.specs.Text.{uncommented, words}
use Rattle.proxy_config.specs.declared.faults.FaultCause.{FaultCause}
use Rattle.proxy_config.specs.declared.faults.FaultCause.TheVariants as causes
use Rattle.proxy_config.specs.declared.draft.Draft.{Draft}
use Rattle.proxy_config.specs.declared.keywords.Keyword.{Keyword}
use Rattle.proxy_config.specs.declared.keywords.Keyword.TheVariants as keywords
use Rattle.proxy_config.specs.declared.parts.Acl.{Acl}
use Rattle.proxy_config.specs.declared.wishes.UnresolvedUseServer.{UnresolvedUseServer}
use Rattle.proxy_config.specs.Pieces.{word_at}
use Rattle.proxy_words.specs.Names.{is_name}
use Rattle.proxy_config.specs.Keywords.{keyword_of}
use Rattle.proxy_config.specs.Draft as draft
use Rattle.proxy_config.specs.File.{first_keyword, keyword_in, ends_listen}
use Rattle.proxy_config.specs.Outcomes.{◌>>=◌, unless}
use Rattle.proxy_config.specs.Wishes as wished
use Rattle.proxy_config.proofs.Outcomes.{bind_ok, chosen, from_ok}

-- two lines that were read alike leave one draft, and ask alike
same_read : (x y : Draft × Option UnresolvedUseServer) → (let one : Result (Draft × Option UnresolvedUseServer) FaultCause = Ok x in one ≡ Ok y) → x ≡ y
same_read x y is = cc

no_wish : (d e : Draft) (wish : UnresolvedUseServer) → (let one : Result (Draft × Option UnresolvedUseServer) FaultCause = Ok (d, None) in one ≡ Ok (e, Some wish)) → ⊥
no_wish d e wish is =
    let none : (let one : Option UnresolvedUseServer = None in one ≡ Some wish) = ap (λ (x : Draft × Option UnresolvedUseServer). x.1) (same_read (d, None) (e, Some wish) is) in
    cc

plain_none : (r : Result Draft FaultCause) (e : Draft) (wish : UnresolvedUseServer) → draft.plain r ≡ Ok (e, Some wish) → ⊥
plain_none (Ok d) e wish is = no_wish d e wish is
plain_none (Err cause) e wish is = cc

wish_numbered : (n : ℕ) (acls : List Acl) (ws : List (List ℕ)) (wish : UnresolvedUseServer) → wished.wish_line n acls ws ≡ Ok wish → wish.line ≡ n
unfolding wished.wish_line
wish_numbered n acls ws wish is =
    let name = bind_ok (word_at ws) _ wish is in
    let named = bind_ok (unless (not (is_name name.0.0)) causes.Name) _ wish name.2 in
    ap (λ (w : UnresolvedUseServer). w.line) (sym (from_ok _ wish named.2))

use_numbered : (pins : ℕ) (d : Draft) (n : ℕ) (ws : List (List ℕ)) (wish : UnresolvedUseServer) → draft.use_line pins d n ws ≡ Ok wish → wish.line ≡ n
unfolding draft.use_line
use_numbered pins d n ws wish is =
    let place = bind_ok (unless (not (draft.in_listen d.section)) causes.Place) _ wish is in
    let limit = bind_ok (draft.has_rule_room pins d) _ wish place.2 in
    wish_numbered n d.acls ws wish limit.2

-- its number, and the draft
abbrev Own : Draft → Draft → ℕ → UnresolvedUseServer → Type 0
Own d e n wish = (wish.line ≡ n) × (e ≡ d)

from_both : (d e : Draft) (v w : UnresolvedUseServer) → (let one : Result (Draft × Option UnresolvedUseServer) FaultCause = Ok (d, Some v) in one ≡ Ok (e, Some w)) → (v ≡ w) × (e ≡ d)
from_both d e v w is =
    let same = same_read (d, Some v) (e, Some w) is in
    let wish : (let one : Option UnresolvedUseServer = Some v in one ≡ Some w) = ap (λ (x : Draft × Option UnresolvedUseServer). x.1) same in
    (let v_is = wish in cc, ap (λ (x : Draft × Option UnresolvedUseServer). x.0) (sym same))

of_keyword : (pins : ℕ) (d e : Draft) (n : ℕ) (keyword : Keyword) (ws : List (List ℕ)) (wish : UnresolvedUseServer)
    → draft.keyword_line pins d n keyword ws ≡ Ok (e, Some wish) → Own d e n wish
of_keyword pins d e n keywords.Global ws wish is = absurd (plain_none _ e wish is)
of_keyword pins d e n keywords.Defaults ws wish is = absurd (plain_none _ e wish is)
of_keyword pins d e n keywords.Listen ws wish is = absurd (plain_none _ e wish is)
of_keyword pins d e n keywords.Refused ws wish is = absurd (let none = is in cc)
of_keyword pins d e n (keywords.Shared kind) ws wish is = absurd (plain_none _ e wish is)
of_keyword pins d e n keywords.Bind ws wish is = absurd (plain_none _ e wish is)
of_keyword pins d e n keywords.Server ws wish is = absurd (plain_none _ e wish is)
of_keyword pins d e n keywords.Acl ws wish is = absurd (plain_none _ e wish is)
of_keyword pins d e n keywords.HttpRequest ws wish is = absurd (plain_none _ e wish is)
of_keyword pins d e n keywords.UseServer ws wish is =
    let one = bind_ok (draft.use_line pins d n ws) _ (e, Some wish) is in
    let both = from_both d e one.0 wish one.2 in
    (subst (λ (w : UnresolvedUseServer). w.line ≡ n) both.0 (use_numbered pins d n ws one.0 one.1), both.1)

of_words : (pins : ℕ) (d e : Draft) (n : ℕ) (ws : List (List ℕ)) (wish : UnresolvedUseServer) → draft.words_line pins d n ws ≡ Ok (e, Some wish) → Own d e n wish
unfolding draft.words_line
of_words pins d e n [] wish is = absurd (no_wish d e wish is)
of_words pins d e n (word ∷ ws) wish is =
    let keyword = bind_ok (ok_or (keyword_of word) causes.Keyword) _ (e, Some wish) is in
    of_keyword pins d e n keyword.0 ws wish keyword.2

pub of_line : (pins : ℕ) (too_long : Bool) (d e : Draft) (n : ℕ) (line : List ℕ) (wish : UnresolvedUseServer) → draft.step pins too_long d n line ≡ Ok (e, Some wish)
    → (wish.line ≡ n) × (e ≡ d)
unfolding draft.step
of_line pins too_long d e n line wish is = elim (chosen (draft.is_ignored d.section (words (uncommented line))) _ _ _ is) [
  | inl ignored ↦ let short = bind_ok (unless too_long causes.Limit) _ (e, Some wish) ignored.1 in absurd (no_wish d e wish short.2)
  | inr heeded ↦
      let quoted = bind_ok (unless (list_any draft.is_quoting (uncommented line)) causes.Quoting) _ (e, Some wish) heeded.1 in
      let short = bind_ok (unless too_long causes.Limit) _ (e, Some wish) quoted.2 in
      of_words pins d e n (words (uncommented line)) wish short.2
]

-- and ends no section
keyword_ends_none : (pins : ℕ) (d e : Draft) (n : ℕ) (keyword : Keyword) (ws : List (List ℕ)) (wish : UnresolvedUseServer)
    → draft.keyword_line pins d n keyword ws ≡ Ok (e, Some wish) → ends_listen d (Some keyword) ≡ false
keyword_ends_none pins d e n keywords.Refused ws wish is = absurd (let none = is in cc)
keyword_ends_none pins d e n keywords.Listen ws wish is = absurd (plain_none _ e wish is)
keyword_ends_none pins d e n keyword ws wish is = refl

words_end_none : (pins : ℕ) (d e : Draft) (n : ℕ) (ws : List (List ℕ)) (wish : UnresolvedUseServer) → draft.words_line pins d n ws ≡ Ok (e, Some wish)
    → ends_listen d (first_keyword ws) ≡ false
unfolding draft.words_line
words_end_none pins d e n [] wish is = refl
words_end_none pins d e n (word ∷ ws) wish is = by_keyword (keyword_of word) is
  where
    by_keyword : (known : Option Keyword) → (ok_or known causes.Keyword >>= λ keyword. draft.keyword_line pins d n keyword ws) ≡ Ok (e, Some wish)
        → ends_listen d known ≡ false
    by_keyword None is = refl
    by_keyword (Some keyword) is = keyword_ends_none pins d e n keyword ws wish is

pub asks_ends_none : (pins : ℕ) (too_long : Bool) (d e : Draft) (n : ℕ) (line : List ℕ) (wish : UnresolvedUseServer) → draft.step pins too_long d n line ≡ Ok (e, Some wish)
    → ends_listen d (keyword_in line) ≡ false
unfolding draft.step
asks_ends_none pins too_long d e n line wish is = elim (chosen (draft.is_ignored d.section (words (uncommented line))) _ _ _ is) [
  | inl ignored ↦ let short = bind_ok (unless too_long causes.Limit) _ (e, Some wish) ignored.1 in absurd (no_wish d e wish short.2)
  | inr heeded ↦
      let quoted = bind_ok (unless (list_any draft.is_quoting (uncommented line)) causes.Quoting) _ (e, Some wish) heeded.1 in
      let short = bind_ok (unless too_long causes.Limit) _ (e, Some wish) quoted.2 in
      words_end_none pins d e n (words (uncommented line)) wish short.2
]
