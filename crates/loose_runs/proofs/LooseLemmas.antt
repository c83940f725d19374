-- A conflict that is raised belongs to a variable with a loose pair of writes.
use Rattle.std.proofs.Common.{◌≡◌, ◌⊎◌, inl, inr, ℕ, ◌<◌, nat_lt, Bool, true, false, List, [], ◌∷◌, length, Some, refl, sym, ap, ap₂, ◌∙◌, subst, arith}
use Rattle.std.specs.Prelude.{slice_get}
use Rattle.std.proofs.lemmas.Bool.Decides.{nat_tests}
use Rattle.quartz_expr.specs.Vars.{Vars, count_of}
use Rattle.quartz_expr.specs.Terms.{Term}
use Rattle.quartz_expr.specs.Steps.{State}
use Rattle.aif_cells.specs.declared.cells.Action.{Action}
use Rattle.aif_cells.specs.declared.cells.Monitor.{Monitor}
use Rattle.aif_cells.specs.Worth.{Assignment, holds}
use Rattle.aif_cells.specs.Solution.{IsSolution}
use Rattle.absence_reaction.specs.declared.copy.VarCopy.{VarCopy}
use Rattle.absence_reaction.specs.Closing.{flag_of}
use Rattle.statement_cells.specs.Labels.{shape_in}
use Rattle.statement_cells.specs.Builder.{DepthCopy}
use Rattle.statement_cells.specs.Stands.{Registers}
use Rattle.statement_cells.specs.Sound.{IsSound}
use Rattle.statement_cells.specs.Whole.{body_built, compiled, first_scope}
use Rattle.statement_cells.specs.Meaning.{StandsFor}
use Rattle.statement_cells.proofs.PlacedLemmas.{At}
use Rattle.statement_cells.proofs.ScopeHoldLemmas.{AllD}
use Rattle.write_conflicts.specs.Clash.{Clash}
use Rattle.write_conflicts.specs.Loose.{alike, pending_first, pending_second, is_stored}
use Rattle.loose_runs.specs.Laws.{FlaggedAt, IsFlagged}
use Rattle.loose_runs.proofs.AddLemmas.{Among, Known, OutputHere, Site}
use Rattle.loose_runs.proofs.CopyLemmas.{CopySite, of_now, of_next}
use Rattle.loose_runs.proofs.EndAddLemmas.{final, final_depths}
use Rattle.loose_runs.proofs.ExplainLemmas.{Beside, Two, at_alike, next_explained, now_explained}
use Rattle.loose_runs.proofs.ListLemmas.{AreOf, Before, Delays, Drawn, Is, IsQuiet, Of, by_one, delays, drawn_before, drawn_is, one_of_them, quietly}
use Rattle.loose_runs.proofs.MeetLemmas.{never_both_guards}
use Rattle.loose_runs.proofs.QuietLemmas.{NoFlag}
use Rattle.loose_runs.proofs.WayLemmas.{clashes, some_same}

-- where a variable has no delayed action, no register that it has holds a flag
pub record FlagFree (vs : Vars) (t : Term) (q : ℕ) (k : Registers) : Type 0 where
  pub outputs : (a : ℕ) → OutputHere vs t q a → NoFlag vs q a k
  pub scopes : (a : ℕ) → At vs (first_scope vs t) t q a → NoFlag vs q a k

abbrev pub QuietRegisters : Vars → Term → Registers → Type 0
QuietRegisters vs t k = (q : ℕ) → IsQuiet q (compiled vs t).actions → FlagFree vs t q k

among_is : (vs : Vars) (σ : Assignment) (P : ℕ → ℕ → Type 0) (x v : ℕ) (ds : List DepthCopy) → AllD vs σ P ds → Among x v ds → P x v
among_is vs σ P x v [] h a = absurd a
among_is vs σ P x v (d ∷ ds) h (inl e) = subst (λ y. P y v) e.0 (subst (P d.var) e.1 h.0)
among_is vs σ P x v (d ∷ ds) h (inr a) = among_is vs σ P x v ds h.1 a

module _ (vs : Vars) (t : Term) (sound : IsSound vs t) (s : State) (σ : Assignment) (stands : StandsFor vs t σ.registers s) (solves : IsSolution σ (compiled vs t).cells)
    (quiet : QuietRegisters vs t σ.registers) (depths_at : AllD vs σ (At vs (first_scope vs t) t) (body_built vs t).depths) where
  abbrev actions : List Action
  actions = (compiled vs t).actions

  -- two actions of one copy that write one element are loose
  twice : (x n j : ℕ) (d : Bool) (l : List Action) → Drawn l actions → AreOf x n d l → Two σ j l → IsFlagged vs t x
  twice x n j d l drawn of w =
      let first : Of x n d w.first = one_of_them x n d l w.first of (record { number = w.before.lesser; is = w.before.first }) in
      let second : Of x n d w.second = one_of_them x n d l w.second of (record { number = w.before.greater; is = w.before.second }) in
      let there : Before w.first w.second actions = drawn_before w.first w.second l actions drawn w.before in
      record {
        i = there.lesser;
        j = there.greater;
        pair = record {
          in_turn = there.less;
          first = w.first;
          second = w.second;
          is_first = there.first;
          is_second = there.second;
          loose = alike (first.var ∙ sym second.var) (first.copy ∙ sym second.copy) (first.delayed ∙ sym second.delayed) meets;
        };
        writes = first.var;
      }
    where
      meets : Clash (compiled vs t).cells (compiled vs t).paths w.first w.second → ⊥
      meets (inl c) = never_both_guards vs t s σ stands solves w.first.guard w.second.guard c w.first_writes.acts w.second_writes.acts
      meets (inr e) = at_alike σ j w.first.index w.second.index w.first_writes.at w.second_writes.at e

  -- a delayed action and one that acts now on a copy with a store are loose
  pending : (x : ℕ) (a b : Action) → Is a actions → Is b actions → a.var ≡ x → b.var ≡ x → a.delayed ≡ true → b.delayed ≡ false → is_stored (compiled vs t).made b.var b.copy ≡ true → IsFlagged vs t x
  pending x a b i j e f d n stored = by (nat_lt i.number j.number) refl (nat_lt j.number i.number) refl
    where
      less : (m k : ℕ) → nat_lt m k ≡ true → m < k
      less m k e = grind (arith, nat_tests, e)

      same : (m k : ℕ) → nat_lt m k ≡ false → nat_lt k m ≡ false → m ≡ k
      same m k e g = grind (arith, nat_tests, e, g)

      one : (m k : ℕ) → m ≡ k → slice_get actions m ≡ Some a → slice_get actions k ≡ Some b → a ≡ b
      one m k e g h = some_same (sym g ∙ ap (slice_get actions) e ∙ h)

      by : (p : Bool) → nat_lt i.number j.number ≡ p → (q : Bool) → nat_lt j.number i.number ≡ q → IsFlagged vs t x
      by true g q h = record {
        i = i.number;
        j = j.number;
        pair = record { in_turn = less i.number j.number g; first = a; second = b; is_first = i.is; is_second = j.is; loose = pending_first (e ∙ sym f) d n stored };
        writes = e;
      }
      by false g true h = record {
        i = j.number;
        j = i.number;
        pair = record { in_turn = less j.number i.number h; first = b; second = a; is_first = j.is; is_second = i.is; loose = pending_second (f ∙ sym e) n d stored };
        writes = f;
      }
      by false g false h = absurd (clashes b.delayed n (ap (λ (c : Action). c.delayed) (sym (one i.number j.number (same i.number j.number g h) i.is j.is)) ∙ d))

  -- one beside a pending value
  beside : (x : ℕ) (c : VarCopy) (j : ℕ) → Known vs (OutputHere vs t) (final vs t sound) x c → j < length c.values → Beside σ j (shape_in vs x) c → IsFlagged vs t x
  beside x c j known less w = by (delays x actions)
    where
      below : j < count_of vs x
      below = let count = known.count in omega (arith, less, count)

      some : 0 < count_of vs x
      some = let l = below in omega (arith, l)

      unset : FlagFree vs t x σ.registers → OutputHere vs t x c.first ⊎ Among x c.first (final vs t sound).depths → holds (σ.registers (flag_of (shape_in vs x) c.first j)) ≡ false
      unset f (inl o) = f.outputs c.first o j below w.delayed
      unset f (inr a) = f.scopes c.first (among_is vs σ (At vs (first_scope vs t) t) x c.first (body_built vs t).depths depths_at (subst (Among x c.first) (final_depths vs t sound) a)) j below w.delayed

      its : Is w.one.action actions
      its = drawn_is w.one.action c.now actions known.now w.one.is

      of : Of x c.copy false w.one.action
      of = one_of_them x c.copy false c.now w.one.action known.nows w.one.is

      by : Delays x actions → IsFlagged vs t x
      by (quietly h) = absurd (clashes (holds (σ.registers (flag_of (shape_in vs x) c.first j))) (unset (quiet x h) (known.placed w.stored w.delayed some)) w.flag)
      by (by_one a i v d) = pending x a w.one.action i its v of.var d of.delayed (ap₂ (is_stored (compiled vs t).made) of.var of.copy ∙ known.stored w.stored)

  -- the monitor of a conflict whose cell holds
  pub flagged : (m : Monitor) → Site vs (OutputHere vs t) (λ q. Unit {0}) (final vs t sound) m → holds (σ.cells m.cell) ≡ true → FlaggedAt vs t m.place
  flagged m site h = by site.here
    where
      x : ℕ
      x = site.var

      c : VarCopy
      c = site.copy

      by : CopySite (shape_in vs site.var) site.copy (λ q. Unit {0}) (compiled vs t).cells m → FlaggedAt vs t m.place
      by (of_now j k place less bk bm value cell) = record {
        var = site.var;
        known = site.known.known;
        place = sym place;
        flagged = on (now_explained σ j (shape_in vs site.var) site.copy k (solves k _ value.is refl) (ap holds (sym (solves m.cell _ cell.is refl)) ∙ h));
      }
        where
          on : Two σ j site.copy.now ⊎ Beside σ j (shape_in vs site.var) site.copy → IsFlagged vs t site.var
          on (inl w) = twice site.var site.copy.copy j false site.copy.now site.known.now site.known.nows w
          on (inr w) = beside site.var site.copy j site.known less w
      by (of_next j k place less bk bm value cell) = record {
        var = site.var;
        known = site.known.known;
        place = sym place;
        flagged = twice site.var site.copy.copy j true site.copy.next site.known.next site.known.nexts
            (next_explained σ j site.copy.next k (solves k _ value.is refl) (ap holds (sym (solves m.cell _ cell.is refl)) ∙ h));
      }
