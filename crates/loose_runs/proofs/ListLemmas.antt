-- Actions that are drawn from others in their order.
use Rattle.std.proofs.Common.{◌≡◌, ℕ, zero, suc, ◌<◌, ◌==◌, ◌&&◌, Bool, true, false, List, [], ◌∷◌, ◌++◌, Some, refl, ap, ◌∙◌, subst, arith}
use Rattle.std.specs.Prelude.{slice_get, if◌then◌else◌}
use Rattle.std.proofs.lemmas.Bool.Decides.{nat_tests}
use Rattle.quartz_expr.specs.Resolve.{same_bool}
use Rattle.aif_cells.specs.declared.cells.Action.{Action}
use Rattle.statement_cells.specs.Builder.{action_if, writes_to, writes_to_others}

-- the action is one of these
pub record Is (a : Action) (as' : List Action) : Type 0 where
  pub number : ℕ
  pub is : slice_get as' number ≡ Some a

-- one of them stands before the other
pub record Before (a b : Action) (as' : List Action) : Type 0 where
  pub lesser : ℕ
  pub greater : ℕ
  pub less : lesser < greater
  pub first : slice_get as' lesser ≡ Some a
  pub second : slice_get as' greater ≡ Some b

pub is_later : (a c : Action) (l : List Action) → Is a l → Is a (c ∷ l)
is_later a c l h = record { number = suc h.number; is = h.is }

pub before_later : (a b c : Action) (l : List Action) → Before a b l → Before a b (c ∷ l)
before_later a b c l h = let m = h.less in record { lesser = suc h.lesser; greater = suc h.greater; less = omega (arith, m); first = h.first; second = h.second }

pub before_first : (a b : Action) (l : List Action) → Is b l → Before a b (a ∷ l)
before_first a b l h = record { lesser = 0; greater = suc h.number; less = omega arith; first = refl; second = h.is }

-- drawn from a list in its order
pub data Drawn : List Action → List Action → Type 0 where
  no_more : Drawn [] []
  left_out : (a : Action) (ws l : List Action) → Drawn ws l → Drawn ws (a ∷ l)
  taken : (a : Action) (ws l : List Action) → Drawn ws l → Drawn (a ∷ ws) (a ∷ l)

pub drawn_none : (l : List Action) → Drawn [] l
drawn_none [] = no_more
drawn_none (a ∷ l) = left_out a [] l (drawn_none l)

pub drawn_all : (l : List Action) → Drawn l l
drawn_all [] = no_more
drawn_all (a ∷ l) = taken a l l (drawn_all l)

pub drawn_both : (ws us l m : List Action) → Drawn ws l → Drawn us m → Drawn (ws ++ us) (l ++ m)
drawn_both _ us _ m no_more h = h
drawn_both _ us _ m (left_out a ws l g) h = left_out a (ws ++ us) (l ++ m) (drawn_both ws us l m g h)
drawn_both _ us _ m (taken a ws l g) h = taken a (ws ++ us) (l ++ m) (drawn_both ws us l m g h)

-- from the list, with others behind it
pub drawn_front : (ws l m : List Action) → Drawn ws l → Drawn ws (l ++ m)
drawn_front _ _ m no_more = drawn_none m
drawn_front _ _ m (left_out a ws l g) = left_out a ws (l ++ m) (drawn_front ws l m g)
drawn_front _ _ m (taken a ws l g) = taken a ws (l ++ m) (drawn_front ws l m g)

pub drawn_back : (ws l m : List Action) → Drawn ws m → Drawn ws (l ++ m)
drawn_back ws [] m g = g
drawn_back ws (a ∷ l) m g = left_out a ws (l ++ m) (drawn_back ws l m g)

pub drawn_twice : (us ws l : List Action) → Drawn us ws → Drawn ws l → Drawn us l
drawn_twice us _ _ g no_more = g
drawn_twice us _ _ g (left_out a ws l h) = left_out a us l (drawn_twice us ws l g h)
drawn_twice _ _ _ (left_out _ us ws g) (taken a _ l h) = left_out a us l (drawn_twice us ws l g h)
drawn_twice _ _ _ (taken _ us ws g) (taken a _ l h) = taken a us l (drawn_twice us ws l g h)

pub drawn_is : (a : Action) (ws l : List Action) → Drawn ws l → Is a ws → Is a l
drawn_is a _ _ no_more h = h
drawn_is a _ _ (left_out c ws l g) h = is_later a c l (drawn_is a ws l g h)
drawn_is a _ _ (taken c ws l g) h = by h.number h.is (drawn_is a ws l g)
  where
    by : (i : ℕ) → slice_get (c ∷ ws) i ≡ Some a → (Is a ws → Is a l) → Is a (c ∷ l)
    by zero e f = record { number = 0; is = e }
    by (suc i) e f = is_later a c l (f (record { number = i; is = e }))

pub drawn_before : (a b : Action) (ws l : List Action) → Drawn ws l → Before a b ws → Before a b l
drawn_before a b _ _ no_more h = h
drawn_before a b _ _ (left_out c ws l g) h = before_later a b c l (drawn_before a b ws l g h)
drawn_before a b _ _ (taken c ws l g) h = by h.lesser h.greater h.less h.first h.second (drawn_before a b ws l g)
  where
    by : (i j : ℕ) → i < j → slice_get (c ∷ ws) i ≡ Some a → slice_get (c ∷ ws) j ≡ Some b → (Before a b ws → Before a b l) → Before a b (c ∷ l)
    by zero zero less e f k = absurd (omega (arith, less))
    by zero (suc j) less e f k =
        let r = drawn_is b ws l g (record { number = j; is = f }) in
        record { lesser = 0; greater = suc r.number; less = omega arith; first = e; second = r.is }
    by (suc i) zero less e f k = absurd (omega (arith, less))
    by (suc i) (suc j) less e f k = before_later a b c l (k (record { lesser = i; greater = j; less = omega (arith, less); first = e; second = f }))

-- ---- writes to one variable, and to others

pub drawn_to : (x : ℕ) (d : Bool) (ws : List Action) → Drawn (writes_to x d ws) ws
drawn_to x d [] = no_more
drawn_to x d (a ∷ ws) = by ((a.var == x) && same_bool a.delayed d) (drawn_to x d ws)
  where
    by : (b : Bool) → Drawn (writes_to x d ws) ws → Drawn (action_if b a (writes_to x d ws)) (a ∷ ws)
    by true g = taken a (writes_to x d ws) ws g
    by false g = left_out a (writes_to x d ws) ws g

pub drawn_others : (x : ℕ) (ws : List Action) → Drawn (writes_to_others x ws) ws
drawn_others x [] = no_more
drawn_others x (a ∷ ws) = by (a.var == x) (drawn_others x ws)
  where
    by : (b : Bool) → Drawn (writes_to_others x ws) ws → Drawn (if b then writes_to_others x ws else a ∷ writes_to_others x ws) (a ∷ ws)
    by true g = left_out a (writes_to_others x ws) ws g
    by false g = taken a (writes_to_others x ws) ws g

-- writes of one copy of a variable, now or for the next step
abbrev pub AreOf : (var copy : ℕ) → (delays : Bool) → List Action → Type 0
AreOf x n d [] = Unit {0}
AreOf x n d (a ∷ l) = (a.var ≡ x) × (a.copy ≡ n) × (a.delayed ≡ d) × AreOf x n d l

pub record Of (x n : ℕ) (d : Bool) (a : Action) : Type 0 where
  pub var : a.var ≡ x
  pub copy : a.copy ≡ n
  pub delayed : a.delayed ≡ d

pub one_of_them : (x n : ℕ) (d : Bool) (l : List Action) (a : Action) → AreOf x n d l → Is a l → Of x n d a
one_of_them x n d l a h is = by l is.number h is.is
  where
    by : (l : List Action) (i : ℕ) → AreOf x n d l → slice_get l i ≡ Some a → Of x n d a
    by [] i h e = absurd (cc)
    by (c ∷ l) zero h e = subst (Of x n d) (same e) (record { var = h.0; copy = h.1; delayed = h.2 })
      where
        same : Some c ≡ Some a → c ≡ a
        same e = cc
    by (c ∷ l) (suc i) h e = by l i h.3 e

-- no delayed write of the variable
abbrev pub IsQuiet : (var : ℕ) → List Action → Type 0
IsQuiet x [] = Unit {0}
IsQuiet x (a ∷ l) = (a.var ≡ x → a.delayed ≡ false) × IsQuiet x l

pub quiet_first : (x : ℕ) (l m : List Action) → IsQuiet x (l ++ m) → IsQuiet x l
quiet_first x [] m h = tt
quiet_first x (a ∷ l) m h = (h.0, quiet_first x l m h.1)

pub quiet_second : (x : ℕ) (l m : List Action) → IsQuiet x (l ++ m) → IsQuiet x m
quiet_second x [] m h = h
quiet_second x (a ∷ l) m h = quiet_second x l m h.1

pub quiet_drawn : (x : ℕ) (ws l : List Action) → Drawn ws l → IsQuiet x l → IsQuiet x ws
quiet_drawn x _ _ no_more h = tt
quiet_drawn x _ _ (left_out a ws l g) h = quiet_drawn x ws l g h.1
quiet_drawn x _ _ (taken a ws l g) h = (h.0, quiet_drawn x ws l g h.1)

-- without one nothing is written for the next step
pub quiet_next : (x : ℕ) (ws : List Action) → IsQuiet x ws → writes_to x true ws ≡ []
quiet_next x [] h = refl
quiet_next x (a ∷ ws) h = by (a.var == x) refl (quiet_next x ws h.1)
  where
    same : (a.var == x) ≡ true → a.var ≡ x
    same e = grind (arith, nat_tests, e)

    by : (b : Bool) → (a.var == x) ≡ b → writes_to x true ws ≡ [] → action_if (b && same_bool a.delayed true) a (writes_to x true ws) ≡ []
    by true e g = ap (λ d. action_if (same_bool d true) a (writes_to x true ws)) (h.0 (same e)) ∙ g
    by false e g = g

-- there is a delayed write of the variable, or there is none
pub data Delays (x : ℕ) (l : List Action) : Type 0 where
  quietly : IsQuiet x l → Delays x l
  by_one : (a : Action) → Is a l → a.var ≡ x → a.delayed ≡ true → Delays x l

pub delays : (x : ℕ) (l : List Action) → Delays x l
delays x [] = quietly tt
delays x (a ∷ l) = by (a.var == x) refl a.delayed refl (delays x l)
  where
    same : (a.var == x) ≡ true → a.var ≡ x
    same e = grind (arith, nat_tests, e)

    other : (a.var == x) ≡ false → a.var ≡ x → ⊥
    other e f = grind (arith, nat_tests, e, f)

    behind : (a.var ≡ x → a.delayed ≡ false) → Delays x l → Delays x (a ∷ l)
    behind f (quietly h) = quietly (f, h)
    behind f (by_one c i v d) = by_one c (is_later c a l i) v d

    by : (b : Bool) → (a.var == x) ≡ b → (d : Bool) → a.delayed ≡ d → Delays x l → Delays x (a ∷ l)
    by true e true f g = by_one a (record { number = 0; is = refl }) (same e) f
    by true e false f g = behind (λ _. f) g
    by false e d f g = behind (λ v. absurd (other e v)) g
