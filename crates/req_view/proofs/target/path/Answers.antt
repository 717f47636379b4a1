use Rattle.std.proofs.Common.{◌≡◌, ℕ, true, false, List, None, Some, drop, refl, sym, ap, ◌∙◌, arith}
use Rattle.std.specs.Prelude.{codes}
use Rattle.std.proofs.lemmas.List.{take_rest}
use Rattle.req_view.specs.Target.{begins, without_query, from_slash, path_of}
use Rattle.std.proofs.lemmas.Grind.{common_steps}
use Rattle.req_view.proofs.target.path.Goals as goal

-- the path by what the target begins with
module _ (target : List ℕ) where
  by_http : begins (codes "/") target ≡ false → begins (codes "http://") target ≡ true → path_of target ≡ Some (from_slash (without_query (drop 7 target)))
  by_http e f = rw (e, f) refl

  by_https : begins (codes "/") target ≡ false → begins (codes "http://") target ≡ false → begins (codes "https://") target ≡ true
      → path_of target ≡ Some (from_slash (without_query (drop 8 target)))
  by_https e f h = rw (e, f, h) refl

  by_none : begins (codes "/") target ≡ false → begins (codes "http://") target ≡ false → begins (codes "https://") target ≡ false
      → path_of target ≡ None
  by_none e f h = rw (e, f, h) refl

pub slice_bounds-without_query-count : goal.slice_bounds-without_query-count
slice_bounds-without_query-count c = c.starts_with-else-starts_with.ensures.bound c.if-starts_with-2.true

pub slice_bounds-without_query-count-then-starts_with-3 : goal.slice_bounds-without_query-count-then-starts_with-3
slice_bounds-without_query-count-then-starts_with-3 c = c.starts_with-else-starts_with-2.ensures.bound c.if-starts_with-3.true

pub returns-then-starts_with-2 : goal.returns-then-starts_with-2
returns-then-starts_with-2 c =
    let text = c.without_query-then-starts_with-2.ensures ∙ ap without_query (take_rest c.args.target.now 7) in
    by_http c.args.target.now (sym c.starts_with.ensures.value ∙ c.if-starts_with.false)
    (sym c.starts_with-else-starts_with.ensures.value ∙ c.if-starts_with-2.true) ∙ ap Some (sym (c.from_slash.ensures ∙ ap from_slash text))

pub returns-then-starts_with-3 : goal.returns-then-starts_with-3
returns-then-starts_with-3 c =
    let text = c.without_query-then-starts_with-3.ensures ∙ ap without_query (take_rest c.args.target.now 8) in
    by_https c.args.target.now (sym c.starts_with.ensures.value ∙ c.if-starts_with.false)
    (sym c.starts_with-else-starts_with.ensures.value ∙ c.if-starts_with-2.false)
    (sym c.starts_with-else-starts_with-2.ensures.value ∙ c.if-starts_with-3.true)
    ∙ ap Some (sym (c.from_slash-then-starts_with-3.ensures ∙ ap from_slash text))

pub returns-else-starts_with-3 : goal.returns-else-starts_with-3
returns-else-starts_with-3 c =
    by_none c.args.target.now (sym c.starts_with.ensures.value ∙ c.if-starts_with.false)
    (sym c.starts_with-else-starts_with.ensures.value ∙ c.if-starts_with-2.false)
    (sym c.starts_with-else-starts_with-2.ensures.value ∙ c.if-starts_with-3.false)

pub returns-then-starts_with : goal.returns-then-starts_with
returns-then-starts_with c = grind (arith, common_steps)
