-- How builders grow: the cells that are there stay, each value cell is there, and more value cells stand behind those
-- that were there.
use Rattle.std.proofs.Common.{◌≡◌, ℕ, zero, suc, ◌+◌, ◌≤◌, ◌<◌, true, List, [], ◌∷◌, ◌++◌, length, Option, Some, None, refl, sym, ap, ◌∙◌, subst, arith, length-append, append-nil, append_assoc, pos}
use Rattle.std.specs.Prelude.{slice_get}
use Rattle.quartz_tree.specs.declared.place.Place.{Place}
use Rattle.quartz_expr.specs.Vars.{Vars}
use Rattle.aif_cells.specs.declared.reference.Ref.{Ref}
use Rattle.aif_cells.specs.declared.reference.Ref.TheVariants as ref
use Rattle.aif_cells.specs.declared.cells.Action.{Action}
use Rattle.aif_cells.specs.Tree.{Tree}
use Rattle.aif_cells.specs.Built.{Defined}
use Rattle.absence_reaction.specs.Meaning.{is_among}
use Rattle.reincarnation.specs.Entering.{numbers_from}
use Rattle.statement_cells.specs.Expressions.{Test}
use Rattle.statement_cells.specs.Builder.{Builder, Reserved, Scoped, new, not_of, and_of, or_of, in_of, cell_of, given_or_new, pick, Short, first, second, both, enter, stay_at, act, watch, watch_one}
use Rattle.statement_cells.specs.Walk.{AreSoundWrites, IsBuilt, IsSoundWrite, cells_of}

-- the value cells of closed copies have numbers from n on and the trees that were recorded
pub record HasTree (cs : List Defined) (k : ℕ) (t : Tree) : Type 0 where
  pub place : Place
  pub is : slice_get cs k ≡ Some (record { tree = t; place = place })

abbrev pub HaveTrees : (n : ℕ) → List Defined → List ℕ → List Tree → Type 0
HaveTrees n cs [] [] = Unit {0}
HaveTrees n cs (k ∷ ks) (t ∷ ts) = (n ≤ k) × HasTree cs k t × HaveTrees n cs ks ts
HaveTrees n cs _ _ = ⊥

abbrev pub AllRecorded : (n : ℕ) → List Defined → List Scoped → Type 0
AllRecorded n cs [] = Unit {0}
AllRecorded n cs (s ∷ ss) = HaveTrees n cs s.cells s.trees × (length s.absent ≡ length s.cells) × AllRecorded n cs ss

-- the value cells of copies have numbers from one bound to another, each copy's behind those of the copies before it
abbrev pub AreBetween : (lo hi : ℕ) → List Scoped → Type 0
AreBetween lo hi [] = lo ≤ hi
AreBetween lo hi (s ∷ ss) = (f : ℕ) × (n : ℕ) × (lo ≤ f) × (s.cells ≡ numbers_from f n) × AreBetween (f + n) hi ss

pub between_bounds : (lo hi : ℕ) (ss : List Scoped) → AreBetween lo hi ss → lo ≤ hi
between_bounds lo hi [] h = h
between_bounds lo hi (s ∷ ss) (f, n, le, e, more) = let last = between_bounds (f + n) hi ss more in omega (arith, le, last)

pub between_wider : (lo hi up : ℕ) (ss : List Scoped) → hi ≤ up → AreBetween lo hi ss → AreBetween lo up ss
between_wider lo hi up [] le h = omega (arith, le, h)
between_wider lo hi up (s ∷ ss) le (f, n, l, e, more) = (f, n, l, e, between_wider (f + n) hi up ss le more)

pub between_from : (low lo hi : ℕ) (ss : List Scoped) → low ≤ lo → AreBetween lo hi ss → AreBetween low hi ss
between_from low lo hi [] le h = omega (arith, le, h)
between_from low lo hi (s ∷ ss) le (f, n, l, e, more) = (f, n, omega (arith, le, l), e, more)

pub between_both : (lo mid hi : ℕ) (ss us : List Scoped) → AreBetween lo mid ss → AreBetween mid hi us → AreBetween lo hi (ss ++ us)
between_both lo mid hi [] us g h = between_from lo mid hi us g h
between_both lo mid hi (s ∷ ss) us (f, n, l, e, more) h = (f, n, l, e, between_both (f + n) mid hi ss us more h)

-- cells from number m on are kept
abbrev pub KeptFrom : (m : ℕ) → (before after : List Defined) → Type 0
KeptFrom m cs ds = (k : ℕ) (c : Defined) → m ≤ k → slice_get cs k ≡ Some c → slice_get ds k ≡ Some c

trees_kept : (n m : ℕ) (cs ds : List Defined) (ks : List ℕ) (ts : List Tree) → n ≤ m → KeptFrom m cs ds → HaveTrees m cs ks ts → HaveTrees n ds ks ts
trees_kept n m cs ds [] [] le keep h = tt
trees_kept n m cs ds (k ∷ ks) (t ∷ ts) le keep h =
    let more : m ≤ k = h.0 in
    (omega (arith, le, more), record { place = h.1.place; is = keep k (record { tree = t; place = h.1.place }) more h.1.is }, trees_kept n m cs ds ks ts le keep h.2)
trees_kept n m cs ds [] (t ∷ ts) le keep h = absurd h
trees_kept n m cs ds (k ∷ ks) [] le keep h = absurd h

pub recorded_kept : (n m : ℕ) (cs ds : List Defined) (ss : List Scoped) → n ≤ m → KeptFrom m cs ds → AllRecorded m cs ss → AllRecorded n ds ss
recorded_kept n m cs ds [] le keep h = tt
recorded_kept n m cs ds (s ∷ ss) le keep h = (trees_kept n m cs ds s.cells s.trees le keep h.0, h.1, recorded_kept n m cs ds ss le keep h.2)

pub recorded_both : (n : ℕ) (cs : List Defined) (ss us : List Scoped) → AllRecorded n cs ss → AllRecorded n cs us → AllRecorded n cs (ss ++ us)
recorded_both n cs [] us g h = h
recorded_both n cs (s ∷ ss) us g h = (g.0, g.1, recorded_both n cs ss us g.2 h)

pub record Grows (vs : Vars) (before after : Builder) : Type 0 where
  pub longer : length before.cells ≤ length after.cells
  pub kept : (k : ℕ) (c : Defined) → slice_get before.cells k ≡ Some c → slice_get after.cells k ≡ Some c
  pub built : IsBuilt vs before → IsBuilt vs after
  pub more : List Reserved
  pub reserved : after.reserved ≡ before.reserved ++ more
  pub recorded : (n : ℕ) → n ≤ length before.cells → AllRecorded n before.cells before.scopes → AllRecorded n after.cells after.scopes
  pub placed : (lo : ℕ) → AreBetween lo (length before.cells) before.scopes → AreBetween lo (length after.cells) after.scopes

pub get_front : {A : Type 0} (xs ys : List A) (k : ℕ) (x : A) → slice_get xs k ≡ Some x → slice_get (xs ++ ys) k ≡ Some x
get_front [] ys k x e = absurd (cc)
get_front (y ∷ xs) ys zero x e = e
get_front (y ∷ xs) ys (suc k) x e = get_front xs ys k x e

pub writes_both : (vs : Vars) (ws us : List Action) → AreSoundWrites vs ws → AreSoundWrites vs us → AreSoundWrites vs (ws ++ us)
writes_both vs [] us g h = h
writes_both vs (a ∷ ws) us g h = (g.0, writes_both vs ws us g.1 h)

module _ (vs : Vars) where
  pub stays : (β : Builder) → Grows vs β β
  stays β = record { longer = omega arith; kept = λ k c e. e; built = λ h. h; more = []; reserved = sym (append-nil β.reserved); recorded = λ n le r. r; placed = λ lo r. r }

  pub then_grows : (a b c : Builder) → Grows vs a b → Grows vs b c → Grows vs a c
  then_grows a b c g h = record {
    longer = omega (arith, g.longer, h.longer);
    kept = λ k d e. h.kept k d (g.kept k d e);
    built = λ w. h.built (g.built w);
    more = g.more ++ h.more;
    reserved = h.reserved ∙ ap (λ l. l ++ h.more) g.reserved ∙ append_assoc a.reserved g.more h.more;
    recorded = λ n le r. h.recorded n (omega (arith, le, g.longer)) (g.recorded n le r);
    placed = λ lo r. h.placed lo (g.placed lo r);
  }

  -- more cells and writes, and nothing else that counts here
  pub more_cells : (β γ : Builder) (ds : List Defined) (ws : List Action) → γ.cells ≡ β.cells ++ ds → γ.reserved ≡ β.reserved → γ.writes ≡ β.writes ++ ws → γ.scopes ≡ β.scopes → AreSoundWrites vs ws → Grows vs β γ
  more_cells β γ ds ws e f g o sound =
      let size : length γ.cells ≡ length β.cells + length ds = ap length e ∙ length-append β.cells ds in
      record {
        longer = omega (arith, size);
        kept = λ k c h. subst (λ cs. slice_get cs k ≡ Some c) (sym e) (get_front β.cells ds k c h);
        built = λ w. record {
          cells = λ k h.
              let less : k < length β.cells = w.cells k (subst (λ r. is_among k (cells_of r) ≡ true) f h) in
              omega (arith, less, size);
          writes = subst (AreSoundWrites vs) (sym g) (writes_both vs β.writes ws w.writes sound);
        };
        more = [];
        reserved = f ∙ sym (append-nil β.reserved);
        placed = λ lo r. subst (AreBetween lo (length γ.cells)) (sym o) (between_wider lo (length β.cells) (length γ.cells) β.scopes (omega (arith, size)) r);
        recorded = λ n le r. subst (AllRecorded n γ.cells) (sym o)
            (recorded_kept n n β.cells γ.cells β.scopes (omega arith) (λ k c m h. subst (λ cs. slice_get cs k ≡ Some c) (sym e) (get_front β.cells ds k c h)) r);
      }

  only_cells : (β γ : Builder) (ds : List Defined) → γ.cells ≡ β.cells ++ ds → γ.reserved ≡ β.reserved → γ.writes ≡ β.writes → γ.scopes ≡ β.scopes → Grows vs β γ
  only_cells β γ ds e f g o = more_cells β γ ds [] e f (g ∙ sym (append-nil β.writes)) o tt

  pub new_grows : (t : Tree) (β : Builder) → Grows vs β (new t β).built
  unfolding new
  new_grows t β = only_cells β (new t β).built _ refl refl refl refl

  pub not_grows : (a : Ref) (β : Builder) → Grows vs β (not_of a β).built
  unfolding not_of
  not_grows (ref.Lit (pos zero)) β = stays β
  not_grows (ref.Lit z) β = stays β
  not_grows a β = new_grows _ β

  pick_grows : (s : Short) (t : Tree) (a b : Ref) (β : Builder) → Grows vs β (pick s t a b β).built
  pick_grows first t a b β = stays β
  pick_grows second t a b β = stays β
  pick_grows both t a b β = new_grows t β

  pub and_grows : (a b : Ref) (β : Builder) → Grows vs β (and_of a b β).built
  unfolding and_of
  and_grows a b β = pick_grows _ _ a b β

  pub or_grows : (a b : Ref) (β : Builder) → Grows vs β (or_of a b β).built
  unfolding or_of
  or_grows a b β = pick_grows _ _ a b β

  pub in_grows : (l n : ℕ) (β : Builder) → Grows vs β (in_of l n β).built
  unfolding in_of
  in_grows l zero β = stays β
  in_grows l (suc zero) β = stays β
  in_grows l (suc (suc n)) β = new_grows _ β

  given_or_new_grows : (o : Option Ref) (t : Tree) (β : Builder) → Grows vs β (given_or_new o t β).built
  given_or_new_grows (Some r) t β = stays β
  given_or_new_grows None t β = new_grows t β

  pub cell_grows : (t : Tree) (β : Builder) → Grows vs β (cell_of t β).built
  unfolding cell_of
  cell_grows t β = given_or_new_grows _ t β

  -- nothing changes that counts here
  same_cells : (β γ : Builder) → γ.cells ≡ β.cells → γ.reserved ≡ β.reserved → γ.writes ≡ β.writes → γ.scopes ≡ β.scopes → Grows vs β γ
  same_cells β γ e f g o = only_cells β γ [] (e ∙ sym (append-nil β.cells)) f g o

  pub enter_grows : (l : ℕ) (r : Ref) (β : Builder) → Grows vs β (enter l r β)
  unfolding enter
  enter_grows l r β = same_cells β (enter l r β) refl refl refl refl

  pub stay_grows : (l : ℕ) (r : Ref) (β : Builder) → Grows vs β (stay_at l r β)
  unfolding stay_at
  stay_grows l r β = same_cells β (stay_at l r β) refl refl refl refl

  pub act_grows : (a : Action) (β : Builder) → IsSoundWrite vs a → Grows vs β (act a β)
  unfolding act
  act_grows a β h = more_cells β (act a β) [] (a ∷ []) (sym (append-nil β.cells)) refl refl refl (h, tt)

  pub watch_grows : (ts : List Test) (β : Builder) → Grows vs β (watch ts β)
  unfolding watch
  watch_grows [] β = stays β
  watch_grows (t ∷ ts) β = then_grows β (watch_one t β) (watch ts (watch_one t β)) (only_cells β (watch_one t β) _ refl refl refl refl) (watch_grows ts (watch_one t β))
