-- Coherent environments: all writes and all reads of a macro step agree.
use Rattle.std.specs.Prelude.{◌≡◌, ℕ, ◌+◌, ℤ, true, false, List, [], ◌∷◌, ◌++◌, option_to_list}
use Rattle.quartz_tree.specs.declared.declare.Storage.{Storage}
use Rattle.quartz_expr.specs.declared.act.Act.{Act}
use Rattle.quartz_expr.specs.declared.act.Kept.{Kept}
use Rattle.quartz_expr.specs.Vars.{Vars, storage_of}
use Rattle.quartz_expr.specs.Terms.{Store}
use Rattle.quartz_expr.specs.Resolve.{writes_of, absence, differ}
use Rattle.quartz_expr.specs.React.{Reaction, Reacts}
use Rattle.quartz_expr.specs.Steps.{State, environment, outputs_of}

-- each of the values is this one
abbrev pub AllEqual : ℤ → List ℤ → Type 0
AllEqual z [] = Unit {0}
AllEqual z (y ∷ ys) = (y ≡ z) × AllEqual z ys

-- an element's value equals its pending value and all now-writes; where there are none it is the
-- absence value; and all its delayed writes are equal
pub record IsAgreed (s : Storage) (k : Kept) (z : ℤ) (now next : List ℤ) : Type 0 where
  pub written : AllEqual z (option_to_list k.pending ++ now)
  pub absent : option_to_list k.pending ++ now ≡ [] → z ≡ absence s k.value
  pub delayed : differ next ≡ false

-- so for the elements of an output, from element n on
abbrev pub AreAgreed : Storage → (var : ℕ) → List Act → ℕ → Store → List ℤ → Type 0
AreAgreed s x ws n [] [] = Unit {0}
AreAgreed s x ws n (k ∷ ks) (z ∷ zs) = IsAgreed s k z (writes_of x n false ws) (writes_of x n true ws) × AreAgreed s x ws (n + 1) ks zs
AreAgreed s x ws n _ _ = ⊥

-- and for all outputs
abbrev pub OutputsAgree : Vars → (outputs : List ℕ) → List Act → List Store → (outs : List (List ℤ)) → Type 0
OutputsAgree vs [] ws [] [] = Unit {0}
OutputsAgree vs (x ∷ xs) ws (s ∷ ss) (o ∷ os) = AreAgreed (storage_of vs x) x ws 0 s o × OutputsAgree vs xs ws ss os
OutputsAgree vs _ ws _ _ = ⊥

-- the environment with these inputs and outputs is coherent: the term reacts under it without a
-- fault, and every output agrees with what is written
pub record IsCoherent (vs : Vars) (s : State) (ins outs : List (List ℤ)) : Type 0 where
  pub reaction : Reaction
  pub reacts : Reacts vs (environment vs ins outs) s.term reaction
  pub sound : reaction.faults ≡ []
  pub agrees : OutputsAgree vs (outputs_of vs) reaction.acts s.stores outs
