-- Framed terms beside plain ones: what carries each variable that is visible to one of the whole.
use Rattle.std.proofs.Common.{◌≡◌, ◌<◌, ◌≤◌, ℕ, Bool, true, false, List, [], ◌∷◌, length, Option, Some, None, if◌then◌else◌}
use Rattle.std.specs.Prelude.{◌==◌, slice_get}
use Rattle.quartz_tree.specs.declared.place.Place.{Place}
use Rattle.quartz_tree.specs.declared.expr.Unary.{Unary}
use Rattle.quartz_tree.specs.declared.expr.Binary.{Binary}
use Rattle.quartz_tree.specs.declared.fault.Fault.{Fault}
use Rattle.quartz_tree.specs.Surfaces.{Word}
use Rattle.quartz_tree.specs.Tree.{Tree, truth, number, bits, named, element, one, two, choice, slice, to_nat, to_bv, paren}
use Rattle.quartz_expr.specs.declared.act.Act.{Act}
use Rattle.quartz_expr.specs.Values.{Values, elements_in}
use Rattle.quartz_expr.specs.Vars.{Vars, base_of, length_of, storage_of, start_of, declared_at}
use Rattle.quartz_expr.specs.Intervals.{range_of}
use Rattle.quartz_expr.specs.Terms.{Store, Term, Terms, is_fresh}
use Rattle.quartz_expr.specs.Terms as term
use Rattle.quartz_expr.specs.React as plain
use Rattle.framed_terms.specs.Framed.{Framed, nothing, pause, write, choose, seq, par, loop, abort, suspend, scope, call, frame, FramedList, none, part, Meanings, inside, passed, tick}
use Rattle.framed_terms.specs.Reacting.{Reaction, Reactions}

-- the variable of the whole that a visible variable is
abbrev pub Carry : Type 0
Carry = ℕ → Option ℕ

abbrev pub carried : Carry → Option ℕ → Option ℕ
carried f None = None
carried f (Some x) = f x

-- in a called module a parameter is what its argument is
abbrev pub inner : Carry → (args : List ℕ) → Carry
inner f args = λ p. carried f (slice_get args p)

-- and in a scope its variable is visible too
abbrev pub opened : Carry → (x y : ℕ) → Carry
opened f x y = λ z. if z == x then Some y else f z

-- the same expression, over the variables of the whole
pub data Same (f : Carry) : Tree ℕ → Tree ℕ → Type 0 where
  s_truth : (b : Bool) (p : Place) → Same f (truth b p) (truth b p)
  s_number : (n : ℕ) (p : Place) → Same f (number n p) (number n p)
  s_bits : (w n : ℕ) (p : Place) → Same f (bits w n p) (bits w n p)
  s_named : (x y : ℕ) (p : Place) → f x ≡ Some y → Same f (named x p) (named y p)
  s_element : (x y : ℕ) (i j : Tree ℕ) (p : Place) → f x ≡ Some y → Same f i j → Same f (element x i p) (element y j p)
  s_one : (op : Unary) (a b : Tree ℕ) (p : Place) → Same f a b → Same f (one op a p) (one op b p)
  s_two : (op : Binary) (a b c d : Tree ℕ) (p : Place) → Same f a b → Same f c d → Same f (two op a c p) (two op b d p)
  s_choice : (a b c d e g : Tree ℕ) (p : Place) → Same f a b → Same f c d → Same f e g → Same f (choice a c e p) (choice b d g p)
  s_slice : (a b : Tree ℕ) (h : ℕ) (l : Option ℕ) (p : Place) → Same f a b → Same f (slice a h l p) (slice b h l p)
  s_to_nat : (a b : Tree ℕ) (p : Place) → Same f a b → Same f (to_nat a p) (to_nat b p)
  s_to_bv : (a b : Tree ℕ) (w : ℕ) (q p : Place) → Same f a b → Same f (to_bv a w q p) (to_bv b w q p)
  s_paren : (a b : Tree ℕ) (p : Place) → Same f a b → Same f (paren a p) (paren b p)

pub data SameIndex (f : Carry) : Option (Tree ℕ) → Option (Tree ℕ) → Type 0 where
  i_none : SameIndex f None None
  i_some : (i j : Tree ℕ) → Same f i j → SameIndex f (Some i) (Some j)

-- the acts, over the variables of the whole
pub data SameActs (f : Carry) : List Act → List Act → Type 0 where
  a_none : SameActs f [] []
  a_more : (a b : Act) (ws us : List Act) → f a.var ≡ Some b.var → a.element ≡ b.element → a.value ≡ b.value → a.delayed ≡ b.delayed
      → SameActs f ws us → SameActs f (a ∷ ws) (b ∷ us)

-- the variable x has the type of the variable y of the whole
pub record IsLike (vs ws : Vars) (x y : ℕ) : Type 0 where
  pub base : base_of vs x ≡ base_of ws y
  pub len : length_of vs x ≡ length_of ws y
  pub range : range_of vs x ≡ range_of ws y

module _ (us : Meanings) (ws : Vars) where
  -- a visible variable has the type of the one that it is
  abbrev pub LikeTypes : Vars → Carry → Type 0
  LikeTypes vs f = (x y : ℕ) → f x ≡ Some y → IsLike vs ws x y

  -- a local is the variable y of the whole, which no visible variable is
  pub record IsLocal (vs : Vars) (f : Carry) (x y : ℕ) : Type 0 where
    pub near : x < length vs
    pub far : y < length ws
    pub new : (z w : ℕ) → f z ≡ Some w → (w == y) ≡ false
    pub like : IsLike vs ws x y
    pub storage : storage_of vs x ≡ storage_of ws y
    pub start : start_of vs x ≡ start_of ws y
    pub place : declared_at vs x ≡ declared_at ws y

  -- the arguments suit the called module
  pub record Suits (f : Carry) (m : Word) (args : List ℕ) : Type 0 where
    pub types : LikeTypes (us m).vars (inner f args)
    pub few : length args ≤ length (us m).vars

  -- a framed term of a module, and the plain term of the whole that it is
  mutual
    pub data Sim : Vars → Carry → Framed → Term → Type 0 where
      s_nothing : (vs : Vars) (f : Carry) → Sim vs f nothing term.nothing
      s_pause : (vs : Vars) (f : Carry) → Sim vs f pause term.pause
      s_write : (vs : Vars) (f : Carry) (x y : ℕ) (i j : Option (Tree ℕ)) (e g : Tree ℕ) (d : Bool) (p q : Place)
          → f x ≡ Some y → SameIndex f i j → Same f e g → Sim vs f (write x i e d p q) (term.write y j g d p q)
      s_choose : (vs : Vars) (f : Carry) (c d : Tree ℕ) (a b : Framed) (t u : Term) → Same f c d → Sim vs f a t → Sim vs f b u → Sim vs f (choose c a b) (term.choose d t u)
      s_seq : (vs : Vars) (f : Carry) (parts : FramedList) (ts : Terms) → Sims vs f parts ts → Sim vs f (seq parts) (term.seq ts)
      s_par : (vs : Vars) (f : Carry) (parts : FramedList) (ts : Terms) → Sims vs f parts ts → Sim vs f (par parts) (term.par ts)
      s_loop : (vs : Vars) (f : Carry) (a : Framed) (t : Term) (c d : Tree ℕ) → Same f c d → Sim vs f a t → Sim vs f (loop a c) (term.loop t d)
      s_abort : (vs : Vars) (f : Carry) (w i : Bool) (a : Framed) (t : Term) (c d : Tree ℕ) → Same f c d → Sim vs f a t → Sim vs f (abort w i a c) (term.abort w i t d)
      s_suspend : (vs : Vars) (f : Carry) (w i : Bool) (a : Framed) (t : Term) (c d : Tree ℕ) → Same f c d → Sim vs f a t → Sim vs f (suspend w i a c) (term.suspend w i t d)
      s_scope : (vs : Vars) (f : Carry) (x y : ℕ) (s : Option Store) (a : Framed) (t : Term) → IsLocal vs f x y → Sim vs (opened f x y) a t
          → Sim vs f (scope x s a) (term.scope y s t)
      s_frame : (vs : Vars) (f : Carry) (m : Word) (args : List ℕ) (a : Framed) (t : Term) → Suits f m args → Sim (us m).vars (inner f args) a t
          → Sim vs f (frame m args a) t
      s_call : (vs : Vars) (f : Carry) (m : Word) (args : List ℕ) (t : Term) → Suits f m args → is_fresh t ≡ true → Sim (us m).vars (inner f args) (us m).body t
          → Sim vs f (call m args) t

    pub data Sims : Vars → Carry → FramedList → Terms → Type 0 where
      s_none : (vs : Vars) (f : Carry) → Sims vs f none term.none
      s_part : (vs : Vars) (f : Carry) (a : Framed) (parts : FramedList) (t : Term) (ts : Terms) → Sim vs f a t → Sims vs f parts ts → Sims vs f (part a parts) (term.part t ts)

  -- the environments agree on what is visible
  pub record Agree (vs : Vars) (f : Carry) (env all : Values) : Type 0 where
    pub types : LikeTypes vs f
    pub values : (x y : ℕ) → f x ≡ Some y → elements_in env x ≡ elements_in all y
    pub near : length env ≡ length vs
    pub far : length all ≡ length ws

  -- two reactions that are the same
  pub record Related (vs : Vars) (f : Carry) (q : Reaction) (r : plain.Reaction) : Type 0 where
    pub residual : Sim vs f q.residual r.residual
    pub held : Sim vs f q.held r.held
    pub acts : SameActs f q.acts r.acts
    pub faults : q.faults ≡ r.faults
    pub ended : q.ended ≡ r.ended

  pub record RelatedEach (vs : Vars) (f : Carry) (q : Reactions) (r : plain.Reactions) : Type 0 where
    pub residuals : Sims vs f q.residuals r.residuals
    pub helds : Sims vs f q.helds r.helds
    pub acts : SameActs f q.acts r.acts
    pub faults : q.faults ≡ r.faults
    pub ended : q.ended ≡ r.ended
