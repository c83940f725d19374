-- The registers of all scopes of a statement hold what they take.
use Rattle.std.proofs.Common.{◌≡◌, inl, inr, ℕ, zero, suc, ◌+◌, ◌≤◌, ◌<◌, List, [], ◌∷◌, ◌++◌, refl, sym, ap, subst, arith}
use Rattle.quartz_expr.specs.Vars.{Vars}
use Rattle.quartz_expr.specs.Terms.{Term, nothing, pause, write, choose, seq, par, loop, abort, suspend, scope, Terms, none, part}
use Rattle.aif_cells.specs.Worth.{Assignment}
use Rattle.statement_cells.specs.Labels.{labels, registers, registers_all, scope_registers}
use Rattle.statement_cells.specs.Builder.{DepthCopy, EnteredCopy}
use Rattle.statement_cells.specs.Whole.{variable_registers}
use Rattle.statement_cells.proofs.DepthLemmas.{DepthsOf, DepthsOfAll, own_depths}
use Rattle.statement_cells.proofs.HoldLemmas.{AllOut, Out}
use Rattle.statement_cells.proofs.PlacedLemmas.{AllAt, At, AtAll}

module _ (vs : Vars) (σ : Assignment) where
  -- ---- where scopes lie

  pub scope_is : (n x : ℕ) → 0 < scope_registers vs n x → scope_registers vs n x ≡ variable_registers vs x
  scope_is zero x h = absurd (omega (arith, h))
  scope_is (suc n) x h = refl

  -- registers of a scope of the statement are some of the statement's
  pub record Inside (v n x' v' : ℕ) : Type 0 where
    pub some : 0 < variable_registers vs x'
    pub from : v ≤ v'
    pub to : v' + variable_registers vs x' ≤ v + n

  mutual
    pub inside : (s : Term) (v x' v' : ℕ) → At vs v s x' v' → Inside v (registers vs s) x' v'
    inside nothing v x' v' h = absurd h
    inside pause v x' v' h = absurd h
    inside (write x i e d p q) v x' v' h = absurd h
    inside (choose c a b) v x' v' (inl h) = let i = inside a v x' v' h in record { some = i.some; from = i.from; to = omega (arith, i.to) }
    inside (choose c a b) v x' v' (inr h) = let i = inside b (v + registers vs a) x' v' h in record { some = i.some; from = omega (arith, i.from); to = omega (arith, i.to) }
    inside (seq ts) v x' v' h = inside_all ts v x' v' h
    inside (par ts) v x' v' h = inside_all ts v x' v' h
    inside (loop t c) v x' v' h = inside t v x' v' h
    inside (abort w i t c) v x' v' h = inside t v x' v' h
    inside (suspend w i t c) v x' v' h = inside t v x' v' h
    inside (scope x s t) v x' v' (inl h) =
        let n : scope_registers vs (labels t) x ≡ variable_registers vs x = scope_is (labels t) x h.2 in
        let same : variable_registers vs x' ≡ variable_registers vs x = ap (variable_registers vs) h.0 in
        record { some = omega (arith, h.2, n, same); from = omega (arith, h.1); to = omega (arith, h.1, n, same) }
    inside (scope x s t) v x' v' (inr h) = let i = inside t (v + scope_registers vs (labels t) x) x' v' h in record { some = i.some; from = omega (arith, i.from); to = omega (arith, i.to) }

    pub inside_all : (ts : Terms) (v x' v' : ℕ) → AtAll vs v ts x' v' → Inside v (registers_all vs ts) x' v'
    inside_all none v x' v' h = absurd h
    inside_all (part t ts) v x' v' (inl h) = let i = inside t v x' v' h in record { some = i.some; from = i.from; to = omega (arith, i.to) }
    inside_all (part t ts) v x' v' (inr h) = let i = inside_all ts (v + registers vs t) x' v' h in record { some = i.some; from = omega (arith, i.from); to = omega (arith, i.to) }

  pub before_out : (v a n x' v' : ℕ) → Inside (v + a) n x' v' → Out vs σ v a x' v'
  before_out v a n x' v' i = (i.some, inr (i.from))

  pub behind_out : (v a n x' v' : ℕ) → Inside v a x' v' → Out vs σ (v + a) n x' v'
  behind_out v a n x' v' i = (i.some, inl (i.to))

  pub out_left : (v a b x' v' : ℕ) → Out vs σ v (a + b) x' v' → Out vs σ v a x' v'
  out_left v a b x' v' (p, inl h) = (p, inl h)
  out_left v a b x' v' (p, inr h) = (p, inr (omega (arith, h)))

  pub out_right : (v a b x' v' : ℕ) → Out vs σ v (a + b) x' v' → Out vs σ (v + a) b x' v'
  out_right v a b x' v' (p, inl h) = (p, inl (omega (arith, h)))
  out_right v a b x' v' (p, inr h) = (p, inr (omega (arith, h)))

  -- ---- copies with store

  abbrev pub AllD : (ℕ → ℕ → Type 0) → List DepthCopy → Type 0
  AllD P [] = Unit {0}
  AllD P (d ∷ ds) = P d.var d.first × AllD P ds

  pub map_d : (P Q : ℕ → ℕ → Type 0) → ((x' v' : ℕ) → P x' v' → Q x' v') → (ds : List DepthCopy) → AllD P ds → AllD Q ds
  map_d P Q f [] h = tt
  map_d P Q f (d ∷ ds) h = (f d.var d.first h.0, map_d P Q f ds h.1)

  pub both_d : (P : ℕ → ℕ → Type 0) (ds es : List DepthCopy) → AllD P ds → AllD P es → AllD P (ds ++ es)
  both_d P [] es g h = h
  both_d P (d ∷ ds) es g h = (g.0, both_d P ds es g.1 h)

  pub map_e : (P Q : ℕ → ℕ → Type 0) → ((x' v' : ℕ) → P x' v' → Q x' v') → (es : List EnteredCopy) → AllAt vs P es → AllAt vs Q es
  map_e P Q f [] h = tt
  map_e P Q f (e ∷ es) h = (f e.var e.first h.0, map_e P Q f es h.1)

  pub own_d : (P : ℕ → ℕ → Type 0) (n : ℕ) (d : DepthCopy) → (0 < n → P d.var d.first) → AllD P (own_depths n d)
  own_d P zero d h = tt
  own_d P (suc n) d h = (h (omega arith), tt)

  mutual
    pub depths_in : (s : Term) (v : ℕ) (ds : List DepthCopy) → DepthsOf vs v s ds → AllD (At vs v s) ds
    depths_in nothing v ds h = subst (AllD (At vs v nothing)) (sym h) tt
    depths_in pause v ds h = subst (AllD (At vs v pause)) (sym h) tt
    depths_in (write x i e d p q) v ds h = subst (AllD (At vs v (write x i e d p q))) (sym h) tt
    depths_in (choose c a b) v ds h =
        subst (AllD (At vs v (choose c a b))) (sym h.splits)
        (both_d _ h.first h.second (map_d (At vs v a) _ (λ x' v' p. inl p) h.first (depths_in a v h.first h.left)) (map_d (At vs (v + registers vs a) b) _ (λ x' v' p. inr p) h.second (depths_in b (v + registers vs a) h.second h.right)))
    depths_in (seq ts) v ds h = depths_in_all ts v ds h
    depths_in (par ts) v ds h = depths_in_all ts v ds h
    depths_in (loop t c) v ds h = depths_in t v ds h
    depths_in (abort w i t c) v ds h = depths_in t v ds h
    depths_in (suspend w i t c) v ds h = depths_in t v ds h
    depths_in (scope x s t) v ds h =
        let n : ℕ = scope_registers vs (labels t) x in
        subst (AllD (At vs v (scope x s t))) (sym h.splits)
        (both_d _ h.inner (own_depths n h.copy) (map_d (At vs (v + n) t) _ (λ x' v' p. inr p) h.inner (depths_in t (v + n) h.inner h.body)) (own_d _ n h.copy (λ p. inl (h.var, h.first, p))))

    pub depths_in_all : (ts : Terms) (v : ℕ) (ds : List DepthCopy) → DepthsOfAll vs v ts ds → AllD (AtAll vs v ts) ds
    depths_in_all none v ds h = subst (AllD (AtAll vs v none)) (sym h) tt
    depths_in_all (part t ts) v ds h =
        subst (AllD (AtAll vs v (part t ts))) (sym h.splits)
        (both_d _ h.first h.second (map_d (At vs v t) _ (λ x' v' p. inl p) h.first (depths_in t v h.first h.left)) (map_d (AtAll vs (v + registers vs t) ts) _ (λ x' v' p. inr p) h.second (depths_in_all ts (v + registers vs t) h.second h.right)))

  pub out_all : (x v n r : ℕ) (g : v ≤ r) (l : r < v + n) (ds : List DepthCopy) → AllD (Out vs σ v n) ds → AllOut vs σ x v n r g l ds
  out_all x v n r g l [] h = tt
  out_all x v n r g l (d ∷ ds) h = (h.0, out_all x v n r g l ds h.1)
