-- A text is refused by one rule at one place, or accepted as one module.
use Rattle.std.proofs.Common.{◌≡◌, ◌≤◌, inl, inr, arith, slice_get, ℕ, Bool, true, false, List, [], ◌∷◌, Option, Some, None, refl, sym, ap, subst, ◌∙◌}
use Rattle.quartz_tree.specs.declared.place.Place.{Place}
use Rattle.quartz_tree.specs.Surfaces.{ModuleTree}
use Rattle.quartz_lexer.specs.Lexing.{Lexeme, Lexes, origin, place_after}
use Rattle.quartz_lexer.proofs.Laws.{one_outcome}
use Rattle.quartz_parser.specs.Parsing.{DerivesText, HasText, Breaks as Stops}
use Rattle.quartz_parser.proofs.Agreement.{one_text}
use Rattle.aif_cells.specs.Built.{Defined}
use Rattle.causality_check.specs.Order.{HasNoCycle, IsCycleAt}
use Rattle.quartz_build.specs.Broken.{BreaksEarly, by_tokens, by_grammar, by_rule, BreaksLate, by_size, by_cycle, by_pair, CanRun, HasGoodCells, IsAccepted, IsTextOf, IsWellTyped, Refuses, early, late, IsLeastPlace, Scrutiny, Front, Cells, Strict, judges_cells, compiled_of, refusal_of}
use Rattle.quartz_build.proofs.LeastLemmas.{same_place}

same_tokens : (text : List ℕ) (ls ms : List Lexeme) → Lexes text ls → Lexes text ms → ls ≡ ms
same_tokens text ls ms = (one_outcome text).one_list ls ms

-- a text has one list of modules
same_modules : (text : List ℕ) (ms ns : List ModuleTree) → IsTextOf text ms → IsTextOf text ns → ms ≡ ns
same_modules text ms ns a b =
    (one_text b.tokens).one_list ms ns (subst (λ (ls : List Lexeme). DerivesText ls ms) (same_tokens text a.tokens b.tokens a.lexes b.lexes) a.derives) b.derives

not_stopped : (text : List ℕ) (ms : List ModuleTree) (ls : List Lexeme) (end p : Place) → IsTextOf text ms → Lexes text ls → Stops HasText ls end p → ⊥
not_stopped text ms ls end p a l s =
    (one_text ls).not_both ms end p (subst (λ (ks : List Lexeme). DerivesText ks ms) (same_tokens text a.tokens ls a.lexes l) a.derives) s

same_refusal : (f g : ℕ × Place) → Some f ≡ Some g → (f.0 ≡ g.0) × (f.1 ≡ g.1)
same_refusal f g h =
    let same : f ≡ g = cc in
    (ap (λ (x : ℕ × Place). x.0) same, ap (λ (x : ℕ × Place). x.1) same)

no_refusal : (f : ℕ × Place) → Some f ≡ None → ⊥
no_refusal f h = cc

-- a text breaks one of the first rules, at one place
one_early : (text : List ℕ) (r s : ℕ) (p q : Place) → BreaksEarly text r p → BreaksEarly text s q → (r ≡ s) × (p ≡ q)
one_early text r s p q (by_tokens _ _ a) (by_tokens _ _ b) = (refl, (one_outcome text).one_place p q a b)
one_early text r s p q (by_tokens _ _ a) (by_grammar _ ls _ b c) = absurd ((one_outcome text).not_both ls p b a)
one_early text r s p q (by_tokens _ _ a) (by_rule _ ms _ _ b c) = absurd ((one_outcome text).not_both b.tokens p b.lexes a)
one_early text r s p q (by_grammar _ ls _ a b) (by_tokens _ _ c) = absurd ((one_outcome text).not_both ls q a c)
one_early text r s p q (by_grammar _ ls _ a b) (by_grammar _ ks _ c d) =
    (refl, (one_text ks).one_place (place_after origin text) p q (subst (λ (xs : List Lexeme). Stops HasText xs (place_after origin text) p) (same_tokens text ls ks a c) b) d)
one_early text r s p q (by_grammar _ ls _ a b) (by_rule _ ms _ _ c d) = absurd (not_stopped text ms ls (place_after origin text) p c a b)
one_early text r s p q (by_rule _ ms _ _ a b) (by_tokens _ _ c) = absurd ((one_outcome text).not_both a.tokens q a.lexes c)
one_early text r s p q (by_rule _ ms _ _ a b) (by_grammar _ ls _ c d) = absurd (not_stopped text ms ls (place_after origin text) q a c d)
one_early text r s p q (by_rule _ ms _ _ a b) (by_rule _ ns _ _ c d) =
    same_refusal (r, p) (s, q) (sym b ∙ (ap refusal_of (same_modules text ms ns a c) ∙ d))

-- and a well-typed text none
no_early : (text : List ℕ) (m : ModuleTree) (r : ℕ) (p : Place) → IsWellTyped text m → BreaksEarly text r p → ⊥
no_early text m r p k (by_tokens _ _ a) = (one_outcome text).not_both k.read.tokens p k.read.lexes a
no_early text m r p k (by_grammar _ ls _ a c) = not_stopped text (m ∷ []) ls (place_after origin text) p k.read a c
no_early text m r p k (by_rule _ ms _ _ a c) = no_refusal (r, p) (sym c ∙ (ap refusal_of (same_modules text ms (m ∷ []) a k.read) ∙ k.unbroken))

-- a well-typed text is one module
pub one_typed : (text : List ℕ) (m n : ModuleTree) → IsWellTyped text m → IsWellTyped text n → m ≡ n
one_typed text m n a b =
    let lists : ◌≡◌ {A = List ModuleTree} (m ∷ []) (n ∷ []) = same_modules text (m ∷ []) (n ∷ []) a.read b.read in
    cc

-- ---- the rules about cells

-- the cycles that are named start at one place
same_start : (cs : List Defined) (a b : List ℕ) (p q : Place) → IsCycleAt cs a p → IsCycleAt cs b q → p ≡ q
same_start cs [] b p q x y = absurd x
same_start cs (j ∷ a) [] p q x y = absurd y
same_start cs (j ∷ a) (k ∷ b) p q x y =
    let below : j ≤ k = x.0.first k b y.0.cycle in
    let above : k ≤ j = y.0.first j a x.0.cycle in
    let same : j ≡ k = omega (arith, below, above) in
    let at : slice_get cs k ≡ Some x.1.0 = subst (λ (n : ℕ). slice_get cs n ≡ Some x.1.0) same x.1.1 in
    let other : slice_get cs k ≡ Some y.1.0 = y.1.1 in
    let cell : x.1.0 ≡ y.1.0 = cc in
    x.1.2 ∙ (ap (λ (c : Defined). c.place) cell ∙ sym y.1.2)

-- cells without a cycle have none that is named
not_on_cycle : (cs : List Defined) (cells : List ℕ) (p : Place) → HasNoCycle cs → IsCycleAt cs cells p → ⊥
not_on_cycle cs [] p n x = x
not_on_cycle cs (j ∷ path) p n x = n j path x.0.cycle

-- the least place of a loose pair is one
same_least : (m : ModuleTree) (p q : Place) → IsLeastPlace m p → IsLeastPlace m q → p ≡ q
same_least m p q a b = same_place p q (a.none_before q b.of_pair) (b.none_before p a.of_pair)

not_both : (b : Bool) → b ≡ false → b ≡ true → ⊥
not_both b f t = cc

-- a module's cells break one rule, at one place
one_late : (scrutiny : Scrutiny) (m : ModuleTree) (r s : ℕ) (p q : Place) → BreaksLate scrutiny m r p → BreaksLate scrutiny m s q → (r ≡ s) × (p ≡ q)
one_late scrutiny m r s p q (by_size _ a) (by_size _ b) = (refl, refl)
one_late scrutiny m r s p q (by_size _ a) (by_cycle c _ _ l d) = absurd (not_both _ l a)
one_late scrutiny m r s p q (by_size _ a) (by_pair _ _ run k) = absurd (not_both _ run.fits a)
one_late scrutiny m r s p q (by_cycle c _ _ l d) (by_size _ b) = absurd (not_both _ l b)
one_late scrutiny m r s p q (by_cycle c _ _ l d) (by_cycle e _ _ k f) = (refl, same_start (compiled_of m).cells c e p q d f)
one_late scrutiny m r s p q (by_cycle c _ _ l d) (by_pair _ _ run k) = absurd (not_on_cycle (compiled_of m).cells c p run.acyclic d)
one_late scrutiny m r s p q (by_pair _ _ run k) (by_size _ b) = absurd (not_both _ run.fits b)
one_late scrutiny m r s p q (by_pair _ _ run k) (by_cycle c _ _ l d) = absurd (not_on_cycle (compiled_of m).cells c q run.acyclic d)
one_late scrutiny m r s p q (by_pair _ _ run k) (by_pair _ _ other g) = (refl, same_least m p q k g)

-- good cells that are judged can run
pub good_can_run : (scrutiny : Scrutiny) (m : ModuleTree) → judges_cells scrutiny ≡ true → HasGoodCells scrutiny m → CanRun m
good_can_run Front m j g =
    let never : false ≡ true = j in
    cc
good_can_run Cells m j g = g
good_can_run Strict m j g = g.0

-- and break no rule
no_late : (scrutiny : Scrutiny) (m : ModuleTree) (r : ℕ) (p : Place) → HasGoodCells scrutiny m → BreaksLate scrutiny m r p → ⊥
no_late scrutiny m r p g (by_size j a) = not_both _ (good_can_run scrutiny m j g).fits a
no_late scrutiny m r p g (by_cycle c _ j l d) = not_on_cycle (compiled_of m).cells c p (good_can_run scrutiny m j g).acyclic d
no_late scrutiny m r p g (by_pair _ e run k) =
    let strict : HasGoodCells Strict m = subst (λ (s : Scrutiny). HasGoodCells s m) e g in
    strict.1 k.of_pair.i k.of_pair.j k.of_pair.pair

-- ---- the whole

-- a text is refused by one rule at one place
pub one_refusal : (scrutiny : Scrutiny) (text : List ℕ) (r s : ℕ) (p q : Place) → Refuses scrutiny text r p → Refuses scrutiny text s q → (r ≡ s) × (p ≡ q)
one_refusal scrutiny text r s p q (early _ _ _ a) (early _ _ _ b) = one_early text r s p q a b
one_refusal scrutiny text r s p q (early _ _ _ a) (late _ m _ _ k b) = absurd (no_early text m r p k a)
one_refusal scrutiny text r s p q (late _ m _ _ k a) (early _ _ _ b) = absurd (no_early text m s q k b)
one_refusal scrutiny text r s p q (late _ m _ _ k a) (late _ n _ _ l b) = one_late scrutiny n r s p q (subst (λ (o : ModuleTree). BreaksLate scrutiny o r p) (one_typed text m n k l) a) b

-- and none that is accepted
pub not_refused : (scrutiny : Scrutiny) (text : List ℕ) (m : ModuleTree) (r : ℕ) (p : Place) → IsAccepted scrutiny text m → Refuses scrutiny text r p → ⊥
not_refused scrutiny text m r p k (early _ _ _ a) = no_early text m r p k.typed a
not_refused scrutiny text m r p k (late _ n _ _ l a) = no_late scrutiny m r p k.good (subst (λ (o : ModuleTree). BreaksLate scrutiny o r p) (one_typed text n m l k.typed) a)

-- an accepted text is one module
pub one_module : (scrutiny other : Scrutiny) (text : List ℕ) (m n : ModuleTree) → IsAccepted scrutiny text m → IsAccepted other text n → m ≡ n
one_module scrutiny other text m n a b = one_typed text m n a.typed b.typed
