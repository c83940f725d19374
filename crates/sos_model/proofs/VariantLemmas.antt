-- The term of each form that has parts or expressions.
use Rattle.std.proofs.Common.{◌≡◌, ℕ, Bool, Option, Vec, Box, Global, option_map, sym, ap, ap₂, ◌∙◌, subst, ◌<◌, ◌≤◌, List, length, get_or, rules}
use denote.Param.Weighed.{most, at_most}
use Rattle.quartz_tree.specs.declared.expr.Expr.{Expr}
use Rattle.quartz_tree.specs.declared.place.Place.{Place}
use Rattle.quartz_tree.specs.Tree.{tree}
use Rattle.quartz_expr.specs.declared.act.Kept.{Kept}
use Rattle.quartz_expr.specs.Terms.{Term, choose, guard_of, loop, scope, write}
use Rattle.sos_model.specs.declared.form.Form.{Form, Form-F, fold-roll-Form}
use Rattle.sos_model.specs.declared.form.Form.TheViews.{size-Form, the_lemmas}
use Rattle.sos_model.specs.declared.form.Form.TheVariants.{If, Loop, Guard, Scope, Write, rolls-If, rolls-Loop, rolls-Guard, rolls-Scope, rolls-Write}
use Rattle.sos_model.specs.FormTerms.{term, term_step}

pub term_if : (c : Expr ℕ) (y n : Box Form Global) → term (If c y n) ≡ choose (tree c) (term y.value) (term n.value)
term_if c y n = ap term (sym (rolls-If c y n)) ∙ fold-roll-Form Term term_step (Form-F.If c y n)

pub term_loop : (b : Box Form Global) (c : Expr ℕ) → term (Loop b c) ≡ loop (term b.value) (tree c)
term_loop b c = ap term (sym (rolls-Loop b c)) ∙ fold-roll-Form Term term_step (Form-F.Loop b c)

pub term_guard : (a w i : Bool) (b : Box Form Global) (c : Expr ℕ) → term (Guard a w i b c) ≡ guard_of a w i (term b.value) (tree c)
term_guard a w i b c = ap term (sym (rolls-Guard a w i b c)) ∙ fold-roll-Form Term term_step (Form-F.Guard a w i b c)

pub term_scope : (x : ℕ) (s : Option (Vec Kept Global)) (b : Box Form Global) → term (Scope x s b) ≡ scope x (option_map (λ v. v.items) s) (term b.value)
term_scope x s b = ap term (sym (rolls-Scope x s b)) ∙ fold-roll-Form Term term_step (Form-F.Scope x s b)

pub term_write : (x : ℕ) (i : Option (Expr ℕ)) (e : Expr ℕ) (d : Bool) (p q : Place) → term (Write x i e d p q) ≡ write x (option_map tree i) (tree e) d p q
term_write x i e d p q = ap term (sym (rolls-Write x i e d p q)) ∙ fold-roll-Form Term term_step (Form-F.Write x i e d p q)

-- ---- as the code takes a form apart: its parts are what the boxes hold

pub choice_is : (f : Form) (c : Expr ℕ) (y n : Box Form Global) (a b : Form) → f ≡ If c y n → a ≡ y.value → b ≡ n.value → term f ≡ choose (tree c) (term a) (term b)
choice_is f c y n a b e h k = ap term e ∙ term_if c y n ∙ sym (ap₂ (λ (u v : Form). choose (tree c) (term u) (term v)) h k)

pub loop_is : (f : Form) (b : Box Form Global) (c : Expr ℕ) (a : Form) → f ≡ Loop b c → a ≡ b.value → term f ≡ loop (term a) (tree c)
loop_is f b c a e h = ap term e ∙ term_loop b c ∙ sym (ap (λ (u : Form). loop (term u) (tree c)) h)

pub guard_is : (f : Form) (a w i : Bool) (b : Box Form Global) (c : Expr ℕ) (u : Form) → f ≡ Guard a w i b c → u ≡ b.value → term f ≡ guard_of a w i (term u) (tree c)
guard_is f a w i b c u e h = ap term e ∙ term_guard a w i b c ∙ sym (ap (λ (v : Form). guard_of a w i (term v) (tree c)) h)

pub scope_is : (f : Form) (x : ℕ) (s : Option (Vec Kept Global)) (b : Box Form Global) (u : Form) → f ≡ Scope x s b → u ≡ b.value → term f ≡ scope x (option_map (λ v. v.items) s) (term u)
scope_is f x s b u e h = ap term e ∙ term_scope x s b ∙ sym (ap (λ (v : Form). scope x (option_map (λ v. v.items) s) (term v)) h)

-- ---- parts are smaller

pub no_smaller : (f : Form) (c : Expr ℕ) (y n : Box Form Global) (g : Form) → f ≡ If c y n → g ≡ n.value → size-Form g < size-Form f
no_smaller f c y n g e h = search (rules, the_lemmas)

pub body_smaller : (f : Form) (b : Box Form Global) (c : Expr ℕ) (g : Form) → f ≡ Loop b c → g ≡ b.value → size-Form g < size-Form f
body_smaller f b c g e h = search (rules, the_lemmas)

pub scope_smaller : (f : Form) (x : ℕ) (s : Option (Vec Kept Global)) (b : Box Form Global) (g : Form) → f ≡ Scope x s b → g ≡ b.value → size-Form g < size-Form f
scope_smaller f x s b g e h = search (rules, the_lemmas)

pub part_smaller : (fs : List Form) (i : ℕ) (f : Form) → i < length fs → f ≡ get_or fs i f → size-Form f ≤ most size-Form fs
part_smaller fs i f h e = subst (λ (g : Form). size-Form g ≤ most size-Form fs) (sym e) (at_most size-Form fs i f h)
