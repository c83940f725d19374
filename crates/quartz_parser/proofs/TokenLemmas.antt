-- States that look for one mark.
use Rattle.std.proofs.Common.{◌≡◌, ◌-◌, ℕ, Bool, true, false, nat_lt, List, [], ◌∷◌, ◌++◌, Option, Some, None, refl}
use Rattle.std.specs.Prelude.{if◌then◌else◌}
use Rattle.quartz_tree.specs.declared.place.Place.{Place}
use Rattle.quartz_tree.specs.declared.declare.Storage.{Storage}
use Rattle.quartz_tree.specs.declared.declare.Storage.TheVariants.{Mem}
use Rattle.quartz_tree.specs.Tree as tree
use Rattle.quartz_tree.specs.Tree.{Tree}
use Rattle.quartz_tree.specs.Surfaces.{Word, Written, Branch, branch, branches_of, block}
use Rattle.quartz_tree.specs.declared.declare.Decl.{Decl}
use Rattle.quartz_parser.specs.declared.symbol.Mark.{Mark}
use Rattle.quartz_parser.specs.declared.symbol.Mark.TheVariants as m
use Rattle.quartz_parser.specs.declared.declaring.Typing.{Typing}
use Rattle.quartz_parser.specs.Grammar.{typing}
use Rattle.quartz_parser.specs.Tokens.{Token, mark, name, number, bits, truth, storage, sized, infix_sign, preempt, other}
use Rattle.quartz_parser.specs.Machine.{State, expect, want, tail, only, step, stored, tail_on, after_name_on, type_on, base_on, head_on, ready, ready_on, stmt_on}
use Rattle.quartz_parser.specs.Views.{is_mark, storage_of}
use Rattle.quartz_parser.proofs.Frames.{if_true, if_false}

pub index_opens : (n d : ℕ) (x : Word) (p : Place) (next : Tree Word → State) (t : Token) (outer : Option State) → is_mark m.OpenBracket t ≡ true →
    after_name_on n d x p next t outer ≡ only (nat_lt 1 d) (want 0 (d - 1) (λ e. expect m.CloseBracket (tail n d (tree.element x e p) next)))
index_opens n d x p next (mark m.OpenBracket q) outer h = refl
index_opens n d x p next (mark _ q) outer h = cc
index_opens n d x p next _ outer h = cc

pub no_index_opens : (n d : ℕ) (x : Word) (p : Place) (next : Tree Word → State) (t : Token) (outer : Option State) → is_mark m.OpenBracket t ≡ false →
    after_name_on n d x p next t outer ≡ tail_on n d (tree.named x p) next t outer
no_index_opens n d x p next (mark m.OpenBracket q) outer h = cc
no_index_opens n d x p next (mark _ q) outer h = refl
no_index_opens n d x p next _ outer h = refl

pub no_length_opens : (s : Storage) (next : Typing → State) (t : Token) (outer : Option State) → is_mark m.OpenBracket t ≡ false →
    type_on s next t outer ≡ base_on (λ b p. next (typing s b p)) t outer
no_length_opens s next (mark m.OpenBracket q) outer h = cc
no_length_opens s next (mark _ q) outer h = refl
no_length_opens s next _ outer h = refl

pub with_storage : (s : Storage) (next : Typing → State) (t : Token) (outer : Option State) → Some s ≡ storage_of t → head_on next t outer ≡ Some (stored s next)
with_storage s next (storage r q) outer h = cc
with_storage s next _ outer h = cc

pub without_storage : (next : Typing → State) (t : Token) (outer : Option State) → None ≡ storage_of t → head_on next t outer ≡ type_on Mem next t outer
without_storage next (storage r q) outer h = cc
without_storage next _ outer h = refl

module _ (d : ℕ) (ds : List Decl) (bs : List Branch) (ws : List Written) (next : Written → State) where
  pub ready_bars : (t : Token) → is_mark m.Bars t ≡ true → ready_on d ds bs ws next t ≡ Some (ready d ds (bs ++ branch ws ∷ []) [] next)
  ready_bars (mark m.Bars p) h = refl
  ready_bars (mark _ p) h = cc
  ready_bars _ h = cc

  pub ready_brace : (t : Token) → is_mark m.CloseBrace t ≡ true → ready_on d ds bs ws next t ≡ Some (next (block ds (branches_of (bs ++ branch ws ∷ []))))
  ready_brace (mark m.CloseBrace p) h = refl
  ready_brace (mark _ p) h = cc
  ready_brace _ h = cc

  pub ready_other : (t : Token) → is_mark m.Bars t ≡ false → is_mark m.CloseBrace t ≡ false →
      ready_on d ds bs ws next t ≡ (if nat_lt 0 d then stmt_on d (λ w. ready d ds bs (ws ++ w ∷ []) next) t else None)
  ready_other (mark m.Bars p) h g = cc
  ready_other (mark m.CloseBrace p) h g = cc
  ready_other (mark _ p) h g = refl
  ready_other _ h g = refl

pub expected : (k : Mark) (s : State) (t : Token) → is_mark k t ≡ true → Some s ≡ step (expect k s) t
expected k s (mark j p) h = if_true _ (Some s) None h
expected k s _ h = cc

pub unexpected : (k : Mark) (s : State) (t : Token) → is_mark k t ≡ false → None ≡ step (expect k s) t
unexpected k s (mark j p) h = if_false _ (Some s) None h
unexpected k s _ h = refl
