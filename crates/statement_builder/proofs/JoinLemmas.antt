-- Where parallel parts end.
use Rattle.std.proofs.Common.{◌≡◌, ◌∙◌, ℕ, zero, suc, ◌+◌, ◌-◌, ◌≢◌, ◌++◌, List, [], ◌∷◌, length, map, drop, take, get_or, refl, sym, ap, subst, arith, true, false}
use Rattle.std.specs.Prelude.{◌==◌}
use Rattle.std.proofs.lemmas.Bool.Decides.{nat_tests}
use Rattle.std.proofs.Math.Seq.{take-length}
use Rattle.quartz_tree.specs.declared.stmt.Stmt.{Stmt}
use Rattle.quartz_tree.specs.Kernel.{kernel, kernels}
use Rattle.quartz_expr.specs.Vars.{Vars}
use Rattle.quartz_expr.specs.Terms.{Term, Terms, part, term_of, terms_of}
use Rattle.aif_cells.specs.declared.reference.Ref.{Ref}
use Rattle.statement_cells.specs.Labels.{labels, labels_all}
use Rattle.statement_cells.specs.Builder.{Builder as Plain, Made, and_of, in_of, not_of, or_of}
use Rattle.statement_cells.specs.Surface.{MadeAll, all_if_labels, and_all, and_more, at_end, given_all}
use Rattle.statement_builder.specs.declared.builder.Builder.{Builder}
use Rattle.statement_builder.specs.Built.{IsBuilt, Makes, MakesAll}
use Rattle.statement_builder.specs.Joins.{at_rest, joined, part_end}
use Rattle.statement_builder.proofs.StepLemmas.{kept, made_as, then_made}

-- ---- `and` of several references

pub and_one_more : (b0 b1 b : Builder) (e r m : Ref) (rs us : List Ref) (x : Ref) → us ≡ r ∷ rs → Makes b0 b1 m (λ κ. and_of e r) → Makes b1 b x (λ κ. and_more m rs) → Makes b0 b x (λ κ. and_more e us)
unfolding and_more
and_one_more b0 b1 b e r m rs us x f h k = subst (λ (vs : List Ref). Makes b0 b x (λ κ. and_more e vs)) (sym f) (then_made b0 b1 b m x (λ κ. and_of e r) (λ y κ. and_more y rs) h k)

pub and_none_more : (b : Builder) (e : Ref) (rs : List Ref) → rs ≡ [] → Makes b b e (λ κ. and_more e rs)
unfolding and_more
and_none_more b e rs f = subst (λ (vs : List Ref). Makes b b e (λ κ. and_more e vs)) (sym f) (kept b e (λ κ. and_more e []) (λ κ β. refl))

pub and_none : (b : Builder) (e : Ref) (rs : List Ref) → rs ≡ [] → Makes b b e (λ κ. and_all e rs)
unfolding and_all
and_none b e rs f = subst (λ (vs : List Ref). Makes b b e (λ κ. and_all e vs)) (sym f) (kept b e (λ κ. and_all e []) (λ κ β. refl))

pub and_some : (b b' : Builder) (e r x : Ref) (rs us : List Ref) → us ≡ r ∷ rs → Makes b b' x (λ κ. and_more r rs) → Makes b b' x (λ κ. and_all e us)
unfolding and_all
and_some b b' e r x rs us f h = subst (λ (vs : List Ref). Makes b b' x (λ κ. and_all e vs)) (sym f) (made_as b b' x (λ κ. and_more r rs) (λ κ. and_all e (r ∷ rs)) (λ κ β. refl) h)

-- ---- parts

pub rest_made : (b0 b1 b2 b3 : Builder) (l n : ℕ) (e i o r : Ref) → Makes b0 b1 i (λ κ. in_of l n) → Makes b1 b2 o (λ κ. not_of i) → Makes b2 b3 r (λ κ. or_of e o) → Makes b0 b3 r (λ κ. at_rest l n e)
rest_made b0 b1 b2 b3 l n e i o r h1 h2 h3 =
    then_made b0 b1 b3 i r (λ κ. in_of l n) (λ x κ β. or_of e (not_of x β).ref (not_of x β).built) h1 (then_made b1 b2 b3 o r (λ κ. not_of i) (λ x κ. or_of e x) h2 h3)

pub no_part_end : (b : Builder) (l n : ℕ) (e : Ref) (rs : List Ref) → n ≡ 0 → rs ≡ [] → MakesAll b b rs (λ κ. part_end l n e)
no_part_end b l n e rs z f =
    subst (λ (us : List Ref). MakesAll b b us (λ κ. part_end l n e)) (sym f) (subst (λ (m : ℕ). MakesAll b b [] (λ κ. part_end l m e)) (sym z) (record { over = λ vs o. o; made = λ κ front β h. (refl, h) }))

part_of_some : (n l : ℕ) (e r : Ref) (b b' : Builder) → n ≢ 0 → Makes b b' r (λ κ. at_rest l n e) → MakesAll b b' (r ∷ []) (λ κ. part_end l n e)
part_of_some zero l e r b b' z h = absurd (z refl)
part_of_some (suc n) l e r b b' z h = record { over = h.over; made = λ κ front β i. let m = h.made κ front β i in (ap (λ (x : Ref). x ∷ []) m.0, m.1) }

pub one_part_end : (b b' : Builder) (l n : ℕ) (e r : Ref) (rs : List Ref) → n ≢ 0 → Makes b b' r (λ κ. at_rest l n e) → rs ≡ r ∷ [] → MakesAll b b' rs (λ κ. part_end l n e)
one_part_end b b' l n e r rs z h f = subst (λ (us : List Ref). MakesAll b b' us (λ κ. part_end l n e)) (sym f) (part_of_some n l e r b b' z h)

-- the end of one part, and those of all others
abbrev parts_end : Vars → (l : ℕ) → Term → Terms → (end : Ref) → List Ref → Plain → MadeAll
parts_end vs l t ts r rs β =
    let p = part_end l (labels t) r β in
    let more = at_end vs (l + labels t) ts rs p.built in
    given_all (p.refs ++ more.refs) more.built

at_end_by : (vs : Vars) (l n : ℕ) (ts : Terms) (r : Ref) (rs : List Ref) (β : Plain)
    → all_if_labels vs n (at_end vs (l + n) ts rs β) (given_all ((at_rest l n r β).ref ∷ (at_end vs (l + n) ts rs (at_rest l n r β).built).refs) (at_end vs (l + n) ts rs (at_rest l n r β).built).built)
    ≡ given_all ((part_end l n r β).refs ++ (at_end vs (l + n) ts rs (part_end l n r β).built).refs) (at_end vs (l + n) ts rs (part_end l n r β).built).built
at_end_by vs l zero ts r rs β = refl
at_end_by vs l (suc n) ts r rs β = refl

at_end_is : (vs : Vars) (l : ℕ) (t : Term) (ts : Terms) (r : Ref) (rs : List Ref) (β : Plain) → at_end vs l (part t ts) (r ∷ rs) β ≡ parts_end vs l t ts r rs β
unfolding at_end
at_end_is vs l t ts r rs β = at_end_by vs l (labels t) ts r rs β

-- the terms of statements
abbrev pub terms : List Stmt → Terms
terms ss = terms_of (kernels (map kernel ss))

pub at_end_more : (vs : Vars) (b0 b1 b : Builder) (l next n : ℕ) (ss us : List Stmt) (s : Stmt) (rs ws : List Ref) (r : Ref) (these those : List Ref)
    → us ≡ s ∷ ss → ws ≡ r ∷ rs → n ≡ labels (term_of (kernel s)) → next ≡ l + n → MakesAll b0 b1 these (λ κ. part_end l n r) → MakesAll b1 b those (λ κ. at_end vs next (terms ss) rs)
    → MakesAll b0 b (these ++ those) (λ κ. at_end vs l (terms us) ws)
at_end_more vs b0 b1 b l next n ss us s rs ws r these those e f g i h k =
    subst (λ (xs : List Stmt). MakesAll b0 b (these ++ those) (λ κ. at_end vs l (terms xs) ws)) (sym e)
    (subst (λ (xs : List Ref). MakesAll b0 b (these ++ those) (λ κ. at_end vs l (terms (s ∷ ss)) xs)) (sym f) (record {
      over = λ qs o. k.over qs (h.over qs o);
      made = λ κ front β o.
          let h' : MakesAll b0 b1 these (λ κ. part_end l (labels (term_of (kernel s))) r) = subst (λ (m : ℕ). MakesAll b0 b1 these (λ κ. part_end l m r)) g h in
          let k' : MakesAll b1 b those (λ κ. at_end vs (l + labels (term_of (kernel s))) (terms ss) rs) = subst (λ (m : ℕ). MakesAll b1 b those (λ κ. at_end vs m (terms ss) rs)) (i ∙ ap (λ (m : ℕ). l + m) g) k in
          let p = h'.made κ front β o in
          let q = k'.made κ front (part_end l (labels (term_of (kernel s))) r β).built p.1 in
          subst (λ (m : MadeAll). (these ++ those ≡ m.refs) × IsBuilt κ front b m.built) (sym (at_end_is vs l (term_of (kernel s)) (terms ss) r rs β)) (λ j. p.0 j ++ q.0 j, q.1);
    }))

pub at_end_none : (vs : Vars) (b : Builder) (l : ℕ) (ss : List Stmt) (rs : List Ref) → ss ≡ [] → MakesAll b b [] (λ κ. at_end vs l (terms ss) rs)
unfolding at_end
at_end_none vs b l ss rs e = subst (λ (xs : List Stmt). MakesAll b b [] (λ κ. at_end vs l (terms xs) rs)) (sym e) (record { over = λ qs o. o; made = λ κ front β o. (refl, o) })

pub parallel_ended : (vs : Vars) (b0 b1 b2 b3 b4 : Builder) (l n : ℕ) (ss : List Stmt) (rs es : List Ref) (res i a r : Ref)
    → MakesAll b0 b1 es (λ κ. at_end vs l (terms ss) rs) → n ≡ labels_all (terms ss) → Makes b1 b2 i (λ κ. in_of l n) → Makes b2 b3 a (λ κ. and_of i res) → Makes b3 b4 r (λ κ. and_more a es)
    → Makes b0 b4 r (λ κ. joined vs l (terms ss) rs res)
parallel_ended vs b0 b1 b2 b3 b4 l n ss rs es res i a r h1 e h2 h3 h4 = record {
  over = λ qs o. behind.over qs (h1.over qs o);
  made = λ κ front β o.
      let p = h1.made κ front β o in
      let all = at_end vs l (terms ss) rs β in
      let q = behind.made κ front all.built p.1 in
      subst (λ (m : ℕ). (r ≡ (from m all.refs all.built).ref) × IsBuilt κ front b4 (from m all.refs all.built).built) e
      (subst (λ (xs : List Ref). (r ≡ (from n xs all.built).ref) × IsBuilt κ front b4 (from n xs all.built).built) p.0 q);
}
  where
    from : ℕ → List Ref → Plain → Made
    from m xs γ = and_more (and_of (in_of l m γ).ref res (in_of l m γ).built).ref xs (and_of (in_of l m γ).ref res (in_of l m γ).built).built

    behind : Makes b1 b4 r (λ κ. from n es)
    behind =
        then_made b1 b2 b4 i r (λ κ. in_of l n) (λ x κ γ. and_more (and_of x res γ).ref es (and_of x res γ).built) h2
        (then_made b2 b3 b4 a r (λ κ. and_of i res) (λ x κ. and_more x es) h3 h4)

pub no_items : (rs : List Ref) → true ≡ (length rs == 0) → rs ≡ []
no_items [] h = refl
no_items (r ∷ rs) h = grind (arith, nat_tests)

pub some_items : (rs : List Ref) (d : Ref) → false ≡ (length rs == 0) → rs ≡ get_or rs 0 d ∷ take (length rs - 1) (drop 1 rs)
some_items [] d h = grind (arith, nat_tests)
some_items (r ∷ rs) d h =
    let n : length (r ∷ rs) - 1 ≡ length rs = omega arith in
    ap (λ (us : List Ref). r ∷ us) (sym (ap (λ (k : ℕ). take k rs) n ∙ take-length rs))
