-- Terms that can react: their expressions are typed, their variables exist, and no loop's body may be instant.
use Rattle.std.specs.Prelude.{ℕ, ◌^◌, Bool, true, false, not, ◌&&◌, ◌==◌, nat_lt, List, [], ◌∷◌, length, Option, Some, None, unwrap_or}
use Rattle.quartz_tree.specs.declared.place.Place.{Place}
use Rattle.quartz_tree.specs.Tree.{Tree, truth, number, bits, named, element, one, two, choice, slice, to_nat, to_bv, paren}
use Rattle.quartz_expr.specs.declared.act.Kept.{Kept}
use Rattle.quartz_expr.specs.Vars.{Vars, count_of, start_of}
use Rattle.quartz_expr.specs.Kinds.{kind_breaks}
use Rattle.quartz_expr.specs.Intervals.{Interval, bound_breaks, is_in, range_of}
use Rattle.quartz_expr.specs.Typed.{is_over, has_sound_bits, have_sound_types, IsTyped}
use Rattle.quartz_expr.specs.Terms.{Store, Term, nothing, pause, write, choose, seq, par, loop, abort, suspend, scope, Terms, none, part, is_instant}

abbrev pub no_places : List Place → Bool
no_places [] = true
no_places (p ∷ ps) = false

-- the expression names variables alone, and breaks neither the rule of kinds nor that of bounds
abbrev pub is_typed : Vars → Tree ℕ → Bool
is_typed vs e = is_over (length vs) e && (has_sound_bits e && (no_places (kind_breaks vs e) && no_places (bound_breaks vs e)))

-- all parts of the expression are typed
abbrev pub HasTypedParts : Vars → Tree ℕ → Type 0
HasTypedParts vs (truth _ _) = Unit {0}
HasTypedParts vs (number _ _) = Unit {0}
HasTypedParts vs (bits _ _ _) = Unit {0}
HasTypedParts vs (named _ _) = Unit {0}
HasTypedParts vs (element _ i _) = IsTyped vs i × HasTypedParts vs i
HasTypedParts vs (one _ a _) = HasTypedParts vs a
HasTypedParts vs (two _ a b _) = IsTyped vs b × HasTypedParts vs a × HasTypedParts vs b
HasTypedParts vs (choice c a b _) = IsTyped vs c × HasTypedParts vs c × HasTypedParts vs a × HasTypedParts vs b
HasTypedParts vs (slice a _ _ _) = HasTypedParts vs a
HasTypedParts vs (to_nat a _) = HasTypedParts vs a
HasTypedParts vs (to_bv a _ _ _) = HasTypedParts vs a
HasTypedParts vs (paren a _) = HasTypedParts vs a

abbrev pub is_typed_index : Vars → Option (Tree ℕ) → Bool
is_typed_index vs None = true
is_typed_index vs (Some i) = is_typed vs i

abbrev pub IsTypedIndex : Vars → Option (Tree ℕ) → Type 0
IsTypedIndex vs None = Unit {0}
IsTypedIndex vs (Some i) = IsTyped vs i

-- fewer than 2^32 variables, whose types break no bounds
abbrev pub are_sound_vars : Vars → Bool
are_sound_vars vs = nat_lt (length vs) (2 ^ 32) && have_sound_types vs

-- what is kept of an element lies in its range, also what is pending
abbrev pub lies_kept : Interval → Kept → Bool
lies_kept i k = is_in i k.value && is_in i (unwrap_or k.pending k.value)

abbrev pub lie_kept : Interval → Store → Bool
lie_kept i [] = true
lie_kept i (k ∷ ks) = lies_kept i k && lie_kept i ks

-- a scope's store has one entry for each element of the variable, in its range; without a store the start value is in it
abbrev pub fits_store : Vars → (var : ℕ) → Option Store → Bool
fits_store vs x None = is_in (range_of vs x) (start_of vs x)
fits_store vs x (Some s) = (length s == count_of vs x) && lie_kept (range_of vs x) s

-- the term can react over the variables
abbrev mutual
  pub is_sound : Vars → Term → Bool
  is_sound vs nothing = true
  is_sound vs pause = true
  is_sound vs (write x i e _ _ _) = nat_lt x (length vs) && (is_typed_index vs i && is_typed vs e)
  is_sound vs (choose c a b) = is_typed vs c && (is_sound vs a && is_sound vs b)
  is_sound vs (seq ts) = are_sound vs ts
  is_sound vs (par ts) = are_sound vs ts
  is_sound vs (loop t c) = not (is_instant t) && (is_typed vs c && is_sound vs t)
  is_sound vs (abort _ _ t c) = is_typed vs c && is_sound vs t
  is_sound vs (suspend _ _ t c) = is_typed vs c && is_sound vs t
  is_sound vs (scope x s t) = nat_lt x (length vs) && (fits_store vs x s && is_sound vs t)

  pub are_sound : Vars → Terms → Bool
  are_sound vs none = true
  are_sound vs (part t ts) = is_sound vs t && are_sound vs ts
