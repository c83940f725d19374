-- By induction on statements, branches and blocks, form by form.
use Rattle.std.proofs.Common.{◌≡◌, Bool, true, false, ◌||◌, refl, ap, ap₂}
use Rattle.quartz_tree.specs.Expand.{expanded, expanded_branch, expanded_branches}
use Rattle.quartz_tree.specs.Surfaces.{Written, empty, pause, halt, await, emit, write, block, choose, choose_one, loop, always, while, do_while, guard, call, Branch, done, then, Branches, none, beside}
use Rattle.front_laws.specs.Derived.{has_derived, branch_has_derived, branches_have_derived}

neither : (a b : Bool) → a ≡ false → b ≡ false → (a || b) ≡ false
neither a b h k = cc

first_of : (a b : Bool) → (a || b) ≡ false → a ≡ false
first_of true b h = absurd (cc)
first_of false b h = refl

second_of : (a b : Bool) → (a || b) ≡ false → b ≡ false
second_of true b h = absurd (cc)
second_of false b h = h

-- nothing is derived in what is expanded
mutual
  pub expansion_leaves_none : (w : Written) → has_derived (expanded w) ≡ false
  expansion_leaves_none empty = refl
  expansion_leaves_none pause = refl
  expansion_leaves_none (halt p) = refl
  expansion_leaves_none (await false c p) = refl
  expansion_leaves_none (await true c p) = refl
  expansion_leaves_none (emit d g p) = refl
  expansion_leaves_none (write d g e p) = refl
  expansion_leaves_none (block ds bs) = branches_leave_none bs
  expansion_leaves_none (choose c a b) = neither _ _ (expansion_leaves_none a) (expansion_leaves_none b)
  expansion_leaves_none (choose_one c a) = expansion_leaves_none a
  expansion_leaves_none (loop s p) = expansion_leaves_none s
  expansion_leaves_none (always s p) = neither _ _ (neither _ _ (expansion_leaves_none s) refl) refl
  expansion_leaves_none (while c s p) = expansion_leaves_none s
  expansion_leaves_none (do_while s c p) = expansion_leaves_none s
  expansion_leaves_none (guard a w i s c) = expansion_leaves_none s
  expansion_leaves_none (call m args p) = refl

  branch_leaves_none : (b : Branch) → branch_has_derived (expanded_branch b) ≡ false
  branch_leaves_none done = refl
  branch_leaves_none (then s rest) = neither _ _ (expansion_leaves_none s) (branch_leaves_none rest)

  branches_leave_none : (bs : Branches) → branches_have_derived (expanded_branches bs) ≡ false
  branches_leave_none none = refl
  branches_leave_none (beside b rest) = neither _ _ (branch_leaves_none b) (branches_leave_none rest)

-- what has nothing derived stays
mutual
  pub expansion_spares_others : (w : Written) → has_derived w ≡ false → expanded w ≡ w
  expansion_spares_others empty h = refl
  expansion_spares_others pause h = refl
  expansion_spares_others (halt p) h = absurd (cc)
  expansion_spares_others (await i c p) h = absurd (cc)
  expansion_spares_others (emit d g p) h = absurd (cc)
  expansion_spares_others (write d g e p) h = refl
  expansion_spares_others (block ds bs) h = ap (block ds) (branches_spare_others bs h)
  expansion_spares_others (choose c a b) h = ap₂ (choose c) (expansion_spares_others a (first_of _ _ h)) (expansion_spares_others b (second_of _ _ h))
  expansion_spares_others (choose_one c a) h = ap (choose_one c) (expansion_spares_others a h)
  expansion_spares_others (loop s p) h = absurd (cc)
  expansion_spares_others (always s p) h = absurd (cc)
  expansion_spares_others (while c s p) h = absurd (cc)
  expansion_spares_others (do_while s c p) h = ap (λ t. do_while t c p) (expansion_spares_others s h)
  expansion_spares_others (guard a w i s c) h = ap (λ t. guard a w i t c) (expansion_spares_others s h)
  expansion_spares_others (call m args p) h = refl

  branch_spares_others : (b : Branch) → branch_has_derived b ≡ false → expanded_branch b ≡ b
  branch_spares_others done h = refl
  branch_spares_others (then s rest) h = ap₂ then (expansion_spares_others s (first_of _ _ h)) (branch_spares_others rest (second_of _ _ h))

  branches_spare_others : (bs : Branches) → branches_have_derived bs ≡ false → expanded_branches bs ≡ bs
  branches_spare_others none h = refl
  branches_spare_others (beside b rest) h = ap₂ beside (branch_spares_others b (first_of _ _ h)) (branches_spare_others rest (second_of _ _ h))
