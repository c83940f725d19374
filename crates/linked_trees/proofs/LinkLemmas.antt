-- The term of a linked statement is that of the statement with calls: by induction on the statement as it is written, both
-- sides expanded form by form, where what stands for a call is the called body.
use Rattle.std.proofs.Common.{◌≡◌, ◌<◌, ◌≤◌, ℕ, zero, suc, ◌+◌, Bool, true, false, List, [], ◌∷◌, ◌++◌, length, map, Option, Some, None, option_map, refl, sym, ap, ap₂, ◌∙◌, subst, arith}
use Rattle.quartz_tree.specs.declared.surface.Arg.{Arg}
use Rattle.quartz_tree.specs.declared.declare.Decl.{Decl}
use Rattle.quartz_tree.specs.declared.place.Place.{Place}
use Rattle.quartz_tree.specs.Kernel.{Kernel, Kernels}
use Rattle.quartz_tree.specs.Kernel as kernel
use Rattle.quartz_tree.specs.Surfaces.{Word, Goal, Written, empty, pause, halt, await, emit, write, block, choose, choose_one, loop, always, while, do_while, guard, call, Branch, done, then, Branches, none, beside, ModuleTree}
use Rattle.quartz_tree.specs.Tree.{Tree, truth}
use Rattle.quartz_tree.specs.Expand.{expanded, expanded_branch, expanded_branches, then_pause, true_at, negated}
use Rattle.quartz_expr.specs.Vars.{Vars}
use Rattle.quartz_expr.specs.Terms.{Term, Terms, term_of, terms_of}
use Rattle.quartz_expr.specs.Terms as term
use Rattle.quartz_expr.proofs.TruthLemmas.{none_left}
use Rattle.quartz_expr.proofs.LawLemmas.{statement_fresh}
use Rattle.quartz_names.specs.Scopes.{Scope, declared, number_in, no_names}
use Rattle.quartz_names.specs.Numbering.{locals, locals_of_branch, locals_of_branches, numbered, numbered_branch, numbered_branches, renamed}
use Rattle.quartz_names.specs.Numbering as numbering
use Rattle.quartz_names.specs.NameRules.{undeclared, undeclared_at, undeclared_in_goal, undeclared_in_index, name_breaks, name_breaks_in_branch, name_breaks_in_branches, repeated}
use Rattle.quartz_names.specs.Resolving.{body_scope, resolved_vars, resolved_body, declarations}
use Rattle.framed_terms.specs.Framed.{Framed, FramedList, Meaning, Meanings}
use Rattle.framed_terms.specs.Framed as framed
use Rattle.framed_terms.specs.Similar.{Carry, inner, Same, s_truth, Sim, Sims, s_nothing, s_pause, s_write, s_choose, s_seq, s_par, s_loop, s_abort, s_suspend, s_scope, s_frame, s_call, s_none, s_part, Suits, LikeTypes}
use Rattle.linked_trees.specs.Naming.{Names, module_named}
use Rattle.linked_trees.specs.Framing.{around, joined, guarded, numbers_of, framed_as, framed_branch, framed_branches, meaning_of, meaning_if, meanings_of}
use Rattle.linked_trees.specs.Linking.{respelled, respelled_goal, spelled_args, passes, renamed_decl, entered, Linker, calls, calls_of_branch, calls_of_branches, linked, linked_branch, linked_branches, called_block, called_calls, linker, linked_module}
use Rattle.linked_trees.proofs.NameLemmas.{AgreeOn, seen, same_expr, same_index, same_negated, Has, has_parts}
use Rattle.linked_trees.specs.Dotted.{Dots}
use Rattle.linked_trees.specs.Fit.{IsCall, Calls, CallsInBranch, CallsInBranches}
use Rattle.linked_trees.proofs.ScopeLemmas.{Scopes, later}
use Rattle.linked_trees.proofs.CallLemmas.{around_sim}

module _ (is_plain : Word → Bool) (dotted : Word → ℕ → Word) (most : ℕ) (ms : List ModuleTree) (counts : Word → Type 0) (height : Word → ℕ) (ws : Vars) (dots : Dots is_plain dotted most) where
  abbrev Both : Option ℕ → Vars → ℕ → Scope → Scope → Names → Carry → ℕ → ℕ → Type 0
  Both = Scopes is_plain dotted most (meanings_of ms) ws

  abbrev SimAt : Vars → Carry → Framed → Term → Type 0
  SimAt = Sim (meanings_of ms) ws

  abbrev SimsAt : Vars → Carry → FramedList → Terms → Type 0
  SimsAt = Sims (meanings_of ms) ws

  -- calls below that height are what stands for them
  abbrev pub Serves : Linker dotted → (top : ℕ) → Type 0
  Serves k top = (o : Option ℕ) (vs : Vars) (c : ℕ) (sc all : Scope) (s : Names) (f : Carry) (n l : ℕ) (m : Word) (args : List Arg) → Both o vs c sc all s f n l → IsCall is_plain ms counts height top vs sc m args → c + suc (k.calls_in m) ≤ most
      → Has ws l (locals (expanded (k.block_of m (spelled_args s args) c))) → name_breaks all l (expanded (k.block_of m (spelled_args s args) c)) ≡ []
      → SimAt vs f (framed.call m (numbers_of sc args)) (term_of (numbered all l (expanded (k.block_of m (spelled_args s args) c))))

  guard_sim : (vs : Vars) (f : Carry) (a w i : Bool) (t : Framed) (u : Term) (c d : Tree ℕ) → Same f c d → SimAt vs f t u → SimAt vs f (guarded a w i t c) (term.guard_of a w i u d)
  guard_sim vs f true w i t u c d g h = s_abort vs f w i t u c d g h
  guard_sim vs f false w i t u c d g h = s_suspend vs f w i t u c d g h

  joined_sim : (vs : Vars) (f : Carry) (args : FramedList) (ks : Kernels) → SimsAt vs f args (terms_of ks) → SimAt vs f (joined args) (term_of (numbering.joined ks))
  joined_sim vs f _ kernel.none (s_none _ _) = s_par vs f _ _ (s_none vs f)
  joined_sim vs f _ (kernel.part k kernel.none) (s_part _ _ _ _ _ _ g (s_none _ _)) = g
  joined_sim vs f _ (kernel.part k (kernel.part j ks)) (s_part _ _ _ _ _ _ g (s_part _ _ _ _ _ _ i h)) = s_par vs f _ _ (s_part vs f _ _ _ _ g (s_part vs f _ _ _ _ i h))

  always_sim : (vs : Vars) (f : Carry) (sc all : Scope) (n l : ℕ) (a b : Written) (z : Place) → SimAt vs f (framed_as sc n a) (term_of (numbered all l b))
      → SimAt vs f (framed.loop (framed.seq (framed.part (framed_as sc (n + 0) a) (framed.part framed.pause framed.none))) (truth true z))
      (term.loop (term.seq (term.part (term_of (numbered all (l + 0) b)) (term.part term.pause term.none))) (truth true z))
  always_sim vs f sc all n l a b z h =
      let here : SimAt vs f (framed_as sc (n + 0) a) (term_of (numbered all (l + 0) b)) =
      subst (λ (i : ℕ). SimAt vs f (framed_as sc i a) (term_of (numbered all (l + 0) b))) (omega arith) (subst (λ (i : ℕ). SimAt vs f (framed_as sc n a) (term_of (numbered all i b))) (omega arith) h) in
      s_loop vs f _ _ _ _ (s_truth true z) (s_seq vs f _ _ (s_part vs f _ _ _ _ here (s_part vs f _ _ _ _ (s_pause vs f) (s_none vs f))))

  module _ (k : Linker dotted) (top : ℕ) (serves : Serves k top) where
    mutual
      pub link_sim : (w : Written) (o : Option ℕ) (vs : Vars) (c : ℕ) (sc all : Scope) (s : Names) (f : Carry) (n l : ℕ) → Both o vs c sc all s f n l → Calls is_plain ms counts height top vs sc n w → c + calls dotted k w ≤ most
          → Has vs n (locals (expanded w)) → Has ws l (locals (expanded (linked dotted k o s c w))) → name_breaks all l (expanded (linked dotted k o s c w)) ≡ []
          → SimAt vs f (framed_as sc n (expanded w)) (term_of (numbered all l (expanded (linked dotted k o s c w))))
      link_sim empty o vs c sc all s f n l h g room p q e = s_nothing vs f
      link_sim pause o vs c sc all s f n l h g room p q e = s_pause vs f
      link_sim (halt z) o vs c sc all s f n l h g room p q e = s_loop vs f _ _ _ _ (s_truth true z) (s_pause vs f)
      link_sim (await false d z) o vs c sc all s f n l h g room p q e = s_loop vs f _ _ _ _ (same_negated sc all s f d h.agree e) (s_pause vs f)
      link_sim (await true d z) o vs c sc all s f n l h g room p q e =
          let b = none_left (undeclared all (respelled s d)) _ e in
          let i = same_negated sc all s f d h.agree b.0 in
          s_choose vs f _ _ _ _ _ _ i (s_loop vs f _ _ _ _ i (s_pause vs f)) (s_nothing vs f)
      link_sim (emit d g' z) o vs c sc all s f n l h g room p q e =
          let a = none_left (undeclared_in_goal all (respelled_goal s g')) _ e in
          let b = none_left (undeclared_at all (s g'.name) g'.place) _ a.0 in
          s_write vs f _ _ _ _ _ _ d z g'.place (seen sc all s f g'.name g'.place h.agree b.0) (same_index sc all s f g'.index h.agree b.1) (s_truth true z)
      link_sim (write d g' v z) o vs c sc all s f n l h g room p q e =
          let a = none_left (undeclared_in_goal all (respelled_goal s g')) _ e in
          let b = none_left (undeclared_at all (s g'.name) g'.place) _ a.0 in
          s_write vs f _ _ _ _ _ _ d z g'.place (seen sc all s f g'.name g'.place h.agree b.0) (same_index sc all s f g'.index h.agree b.1) (same_expr sc all s f v h.agree a.1)
      link_sim (block ds bs) o vs c sc all s f n l h g room p q e =
          let b = none_left (repeated (map (renamed_decl dotted o) ds)) _ e in
          let i = has_parts vs n ds _ p in
          let j = has_parts ws l (map (renamed_decl dotted o) ds) _ q in
          around_sim is_plain dotted most (meanings_of ms) ws dots o vs c ds sc all s f n l _ _ g.0 h i.0 j.0
          (λ r t. joined_sim vs r _ _ (branches_sim bs o vs c _ _ _ r _ _ t g.1 room i.1 j.1 b.1))
      link_sim (choose d a b) o vs c sc all s f n l h g room p q e =
          let x = none_left (undeclared all (respelled s d)) _ e in
          let y = none_left (name_breaks all l (expanded (linked dotted k o s c a))) _ x.1 in
          let i = has_parts vs n (locals (expanded a)) _ p in
          let j = has_parts ws l (locals (expanded (linked dotted k o s c a))) _ q in
          s_choose vs f _ _ _ _ _ _ (same_expr sc all s f d h.agree x.0) (link_sim a o vs c sc all s f n l h g.0 (omega (arith, room)) i.0 j.0 y.0)
          (link_sim b o vs _ sc all s f _ _ (later is_plain dotted most (meanings_of ms) ws o vs c (calls dotted k a) sc all s f n l _ _ h) g.1 (omega (arith, room)) i.1 j.1 y.1)
      link_sim (choose_one d a) o vs c sc all s f n l h g room p q e =
          let x = none_left (undeclared all (respelled s d)) _ e in
          s_choose vs f _ _ _ _ _ _ (same_expr sc all s f d h.agree x.0) (link_sim a o vs c sc all s f n l h g room p q x.1) (s_nothing vs f)
      link_sim (loop a z) o vs c sc all s f n l h g room p q e =
          let x = none_left (name_breaks all l (expanded (linked dotted k o s c a))) _ e in
          s_loop vs f _ _ _ _ (s_truth true z) (link_sim a o vs c sc all s f n l h g room p q x.0)
      link_sim (always a z) o vs c sc all s f n l h g room p q e =
          let x = none_left (name_breaks all l (then_pause (expanded (linked dotted k o s c a)))) _ e in
          let y = none_left (name_breaks_in_branch all (l + 0) (then (expanded (linked dotted k o s c a)) (then pause done))) _ x.0 in
          let v = none_left (name_breaks all (l + 0) (expanded (linked dotted k o s c a))) _ y.0 in
          let i = has_parts vs n (locals (expanded a) ++ []) _ p in
          let j = has_parts ws l (locals (expanded (linked dotted k o s c a)) ++ []) _ q in
          always_sim vs f sc all n l (expanded a) (expanded (linked dotted k o s c a)) z
          (link_sim a o vs c sc all s f n l h g room (has_parts vs n (locals (expanded a)) _ i.0).0 (has_parts ws l (locals (expanded (linked dotted k o s c a))) _ j.0).0
          (subst (λ (m : ℕ). name_breaks all m (expanded (linked dotted k o s c a)) ≡ []) (omega arith) v.0))
      link_sim (while d a z) o vs c sc all s f n l h g room p q e =
          let x = none_left (undeclared all (respelled s d)) _ e in
          let y = none_left (name_breaks all l (expanded (linked dotted k o s c a))) _ x.1 in
          let i = same_expr sc all s f d h.agree x.0 in
          s_choose vs f _ _ _ _ _ _ i (s_loop vs f _ _ _ _ i (link_sim a o vs c sc all s f n l h g room p q y.0)) (s_nothing vs f)
      link_sim (do_while a d z) o vs c sc all s f n l h g room p q e =
          let x = none_left (name_breaks all l (expanded (linked dotted k o s c a))) _ e in
          s_loop vs f _ _ _ _ (same_expr sc all s f d h.agree x.1) (link_sim a o vs c sc all s f n l h g room p q x.0)
      link_sim (guard b w i a d) o vs c sc all s f n l h g room p q e =
          let x = none_left (name_breaks all l (expanded (linked dotted k o s c a))) _ e in
          guard_sim vs f b w i _ _ _ _ (same_expr sc all s f d h.agree x.1) (link_sim a o vs c sc all s f n l h g room p q x.0)
      link_sim (call m args z) o vs c sc all s f n l h g room p q e = serves o vs c sc all s f n l m args h g room q e

      branch_sim : (b : Branch) (o : Option ℕ) (vs : Vars) (c : ℕ) (sc all : Scope) (s : Names) (f : Carry) (n l : ℕ) → Both o vs c sc all s f n l → CallsInBranch is_plain ms counts height top vs sc n b → c + calls_of_branch dotted k b ≤ most
          → Has vs n (locals_of_branch (expanded_branch b)) → Has ws l (locals_of_branch (expanded_branch (linked_branch dotted k o s c b))) → name_breaks_in_branch all l (expanded_branch (linked_branch dotted k o s c b)) ≡ []
          → SimsAt vs f (framed_branch sc n (expanded_branch b)) (terms_of (numbered_branch all l (expanded_branch (linked_branch dotted k o s c b))))
      branch_sim done o vs c sc all s f n l h g room p q e = s_none vs f
      branch_sim (then a rest) o vs c sc all s f n l h g room p q e =
          let y = none_left (name_breaks all l (expanded (linked dotted k o s c a))) _ e in
          let i = has_parts vs n (locals (expanded a)) _ p in
          let j = has_parts ws l (locals (expanded (linked dotted k o s c a))) _ q in
          s_part vs f _ _ _ _ (link_sim a o vs c sc all s f n l h g.0 (omega (arith, room)) i.0 j.0 y.0)
          (branch_sim rest o vs _ sc all s f _ _ (later is_plain dotted most (meanings_of ms) ws o vs c (calls dotted k a) sc all s f n l _ _ h) g.1 (omega (arith, room)) i.1 j.1 y.1)

      branches_sim : (bs : Branches) (o : Option ℕ) (vs : Vars) (c : ℕ) (sc all : Scope) (s : Names) (f : Carry) (n l : ℕ) → Both o vs c sc all s f n l → CallsInBranches is_plain ms counts height top vs sc n bs → c + calls_of_branches dotted k bs ≤ most
          → Has vs n (locals_of_branches (expanded_branches bs)) → Has ws l (locals_of_branches (expanded_branches (linked_branches dotted k o s c bs))) → name_breaks_in_branches all l (expanded_branches (linked_branches dotted k o s c bs)) ≡ []
          → SimsAt vs f (framed_branches sc n (expanded_branches bs)) (terms_of (numbered_branches all l (expanded_branches (linked_branches dotted k o s c bs))))
      branches_sim none o vs c sc all s f n l h g room p q e = s_none vs f
      branches_sim (beside b rest) o vs c sc all s f n l h g room p q e =
          let y = none_left (name_breaks_in_branch all l (expanded_branch (linked_branch dotted k o s c b))) _ e in
          let i = has_parts vs n (locals_of_branch (expanded_branch b)) _ p in
          let j = has_parts ws l (locals_of_branch (expanded_branch (linked_branch dotted k o s c b))) _ q in
          s_part vs f _ _ _ _ (s_seq vs f _ _ (branch_sim b o vs c sc all s f n l h g.0 (omega (arith, room)) i.0 j.0 y.0))
          (branches_sim rest o vs _ sc all s f _ _ (later is_plain dotted most (meanings_of ms) ws o vs c (calls_of_branch dotted k b) sc all s f n l _ _ h) g.1 (omega (arith, room)) i.1 j.1 y.1)
