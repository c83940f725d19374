-- Every text has a verdict: it has tokens or a place of S1, the tokens derive modules or break S2, the rules S3 to S8 are tests, cells have
-- no cycle or one that is named, and the loose pairs are the elements of a list, which has a least place or no element.
use Rattle.std.proofs.Common.{◌≡◌, ◌⊎◌, inl, inr, ℕ, Bool, true, false, List, [], ◌∷◌, map, Option, Some, None, refl}
use Rattle.quartz_tree.specs.declared.place.Place.{Place}
use Rattle.quartz_tree.specs.Least.{least_place}
use Rattle.quartz_tree.specs.Surfaces.{ModuleTree}
use Rattle.quartz_lexer.specs.Lexing.{Lexeme, Lexes, Breaks, origin, place_after}
use Rattle.quartz_parser.specs.Parsing.{HasText, Breaks as Stops}
use Rattle.front_laws.proofs.LexingLemmas.{texts_lex_or_break}
use Rattle.front_laws.proofs.DerivingLemmas.{tokens_derive_or_break}
use Rattle.quartz_names.specs.Resolving.{resolved_vars}
use Rattle.aif_cells.specs.Order.{IsOrder}
use Rattle.causality_check.specs.Order.{HasNoCycle, IsCycleAt, NamesCells}
use Rattle.statement_cells.proofs.EarlierCompiledLemmas.{compiled_names_before}
use Rattle.surface_depth.specs.Compiling.{is_too_large}
use Rattle.macro_steps.proofs.AcyclicLemmas.{acyclic_has_order}
use Rattle.write_conflicts.specs.Pairs.{place_of}
use Rattle.cell_verdicts.proofs.CycleLemmas.{cycles_are_named}
use Rattle.cell_verdicts.proofs.PairLemmas.{loose_pairs_are_listed}
use Rattle.quartz_build.specs.Broken.{BreaksEarly, by_tokens, by_grammar, by_rule, BreaksLate, by_size, by_cycle, by_pair, CanRun, HasGoodCells, HasNoPair, IsLeastPlace, IsTextOf, IsWellTyped, early, late, Scrutiny, Front, Cells, Strict, compiled_of, judges_cells, refusal_of, scene_in, term_in}
use Rattle.quartz_build.proofs.BuildLemmas.{AreListed, least_listed, none_listed}
use Rattle.text_laws.specs.Verdicts.{TextsHaveAVerdict}

-- ---- the text and its kinds

-- a text breaks one of the first rules, or it is one module that breaks none of them
abbrev IsJudged : List ℕ → Type 0
IsJudged text = ((r : ℕ) × (p : Place) × BreaksEarly text r p) ⊎ ((m : ModuleTree) × IsWellTyped text m)

only_one : (text : List ℕ) (ms : List ModuleTree) → IsTextOf text ms → refusal_of ms ≡ None → (m : ModuleTree) × IsWellTyped text m
only_one text [] t e = absurd (cc)
only_one text (m ∷ []) t e = (m, record { read = t; unbroken = e })
only_one text (m ∷ n ∷ ms) t e = absurd (cc)

judged_modules : (text : List ℕ) (ms : List ModuleTree) → IsTextOf text ms → (o : Option (ℕ × Place)) → refusal_of ms ≡ o → IsJudged text
judged_modules text ms t (Some f) e = inl (f.0, f.1, by_rule text ms f.0 f.1 t e)
judged_modules text ms t None e = inr (only_one text ms t e)

judged_tokens : (text : List ℕ) (ls : List Lexeme) → Lexes text ls → HasText ls ⊎ ((p : Place) × Stops HasText ls (place_after origin text) p) → IsJudged text
judged_tokens text ls l (inl d) = judged_modules text d.0 (record { tokens = ls; lexes = l; derives = d.1 }) (refusal_of d.0) refl
judged_tokens text ls l (inr b) = inl (2, b.0, by_grammar text ls b.0 l b.1)

judged_text : (text : List ℕ) → ((ls : List Lexeme) × Lexes text ls) ⊎ ((p : Place) × Breaks text p) → IsJudged text
judged_text text (inl l) = judged_tokens text l.0 l.1 (tokens_derive_or_break l.0 (place_after origin text))
judged_text text (inr b) = inl (1, b.0, by_tokens text b.0 b.1)

-- ---- the cells

names : (m : ModuleTree) → NamesCells (compiled_of m).cells
names m = λ i d dep. (compiled_names_before (resolved_vars m) (term_in m)).named i d dep

-- a module's cells break a rule, or they can run
breaks_or_runs : (scrutiny : Scrutiny) (m : ModuleTree) → judges_cells scrutiny ≡ true → ((r : ℕ) × (p : Place) × BreaksLate scrutiny m r p) ⊎ CanRun m
breaks_or_runs scrutiny m j = by_count (is_too_large (resolved_vars m) (term_in m)) refl
  where
    fit : is_too_large (resolved_vars m) (term_in m) ≡ false → HasNoCycle (compiled_of m).cells ⊎ ((cells : List ℕ) × (p : Place) × IsCycleAt (compiled_of m).cells cells p)
        → ((r : ℕ) × (p : Place) × BreaksLate scrutiny m r p) ⊎ CanRun m
    fit e (inl none) = inr (record { fits = e; acyclic = none })
    fit e (inr c) = inl (9, c.1, by_cycle c.0 c.1 j e c.2)

    by_count : (b : Bool) → is_too_large (resolved_vars m) (term_in m) ≡ b → ((r : ℕ) × (p : Place) × BreaksLate scrutiny m r p) ⊎ CanRun m
    by_count true e = inl (8, origin, by_size j e)
    by_count false e = fit e (cycles_are_named (compiled_of m).cells (names m))

-- a module that can run has a least place of a loose pair, or no such pair
least_or_none : (m : ModuleTree) → CanRun m → ((p : Place) × IsLeastPlace m p) ⊎ HasNoPair m
least_or_none m run = by_place (least_place (map (place_of (compiled_of m).actions) listed.0)) refl
  where
    ordered : (order : List ℕ) × IsOrder (compiled_of m).cells order
    ordered = acyclic_has_order (compiled_of m).cells (names m) run.acyclic

    listed : (pairs : List (ℕ × ℕ)) × AreListed m pairs
    listed = loose_pairs_are_listed (scene_in m) ordered.0 (compiled_of m).actions ordered.1

    by_place : (o : Option Place) → least_place (map (place_of (compiled_of m).actions) listed.0) ≡ o → ((p : Place) × IsLeastPlace m p) ⊎ HasNoPair m
    by_place (Some p) e = inl (p, least_listed m listed.0 p listed.1 e)
    by_place None e = inr (none_listed m listed.0 listed.1 e)

breaks_or_good : (scrutiny : Scrutiny) (m : ModuleTree) → ((r : ℕ) × (p : Place) × BreaksLate scrutiny m r p) ⊎ HasGoodCells scrutiny m
breaks_or_good Front m = inr tt
breaks_or_good Cells m = breaks_or_runs Cells m refl
breaks_or_good Strict m = strictly (breaks_or_runs Strict m refl)
  where
    by_pairs : CanRun m → ((p : Place) × IsLeastPlace m p) ⊎ HasNoPair m → ((r : ℕ) × (p : Place) × BreaksLate Strict m r p) ⊎ HasGoodCells Strict m
    by_pairs run (inl l) = inl (10, l.0, by_pair l.0 refl run l.1)
    by_pairs run (inr none) = inr (run, none)

    strictly : ((r : ℕ) × (p : Place) × BreaksLate Strict m r p) ⊎ CanRun m → ((r : ℕ) × (p : Place) × BreaksLate Strict m r p) ⊎ HasGoodCells Strict m
    strictly (inl b) = inl b
    strictly (inr run) = by_pairs run (least_or_none m run)

-- ---- the whole

pub texts_have_a_verdict : TextsHaveAVerdict
texts_have_a_verdict scrutiny text = elim (judged_text text (texts_lex_or_break text)) [
  | inl b ↦ inr (b.0, b.1, early text b.0 b.1 b.2)
  | inr t ↦ elim (breaks_or_good scrutiny t.0) [
    | inl b ↦ inr (b.0, b.1, late text t.0 b.0 b.1 t.1 b.2)
    | inr g ↦ inl (t.0, record { typed = t.1; good = g })
  ]
]
