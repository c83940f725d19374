-- The terms of sequences and parallels.
use Rattle.std.proofs.Common.{◌≡◌, List, [], ◌∷◌, map, Vec, Global, refl, sym, ap, ◌∙◌}
use Rattle.quartz_tree.specs.declared.stmt.Stmt.{Stmt, Stmt-F, fold-roll-Stmt}
use Rattle.quartz_tree.specs.declared.stmt.Stmt.TheVariants as stmt
use Rattle.quartz_tree.specs.Kernel.{Kernel, kernel, kernel_step, kernels}
use Rattle.quartz_tree.specs.Kernel as k
use Rattle.quartz_expr.specs.Vars.{Vars}
use Rattle.quartz_expr.specs.Terms.{Term, seq, par, part, term_of, terms_of}
use Rattle.quartz_expr.specs.Tick.{tick, tick_all}
use Rattle.sos_model.specs.declared.form.Form.{Form, Form-F, fold-roll-Form}
use Rattle.sos_model.specs.declared.form.Form.TheVariants.{Seq, Par, rolls-Seq, rolls-Par}
use Rattle.sos_model.specs.FormTerms.{term, term_step, terms}

pub term_seq : (v : Vec Form Global) → term (Seq v) ≡ seq (terms (map term v.items))
term_seq v = ap term (sym (rolls-Seq v)) ∙ fold-roll-Form Term term_step (Form-F.Seq v)

pub term_par : (v : Vec Form Global) → term (Par v) ≡ par (terms (map term v.items))
term_par v = ap term (sym (rolls-Par v)) ∙ fold-roll-Form Term term_step (Form-F.Par v)

kernel_seq : (v : Vec Stmt Global) → kernel (stmt.Seq v) ≡ k.seq (kernels (map kernel v.items))
kernel_seq v = ap kernel (sym (stmt.rolls-Seq v)) ∙ fold-roll-Stmt Kernel kernel_step (Stmt-F.Seq v)

kernel_par : (v : Vec Stmt Global) → kernel (stmt.Par v) ≡ k.par (kernels (map kernel v.items))
kernel_par v = ap kernel (sym (stmt.rolls-Par v)) ∙ fold-roll-Stmt Kernel kernel_step (Stmt-F.Par v)

terms_started : (ss : List Stmt) → terms_of (kernels (map kernel ss)) ≡ terms (map (λ s. term_of (kernel s)) ss)
terms_started [] = refl
terms_started (s ∷ ss) = ap (part (term_of (kernel s))) (terms_started ss)

pub started_seq : (v : Vec Stmt Global) (w : Vec Form Global) → map term w.items ≡ map (λ s. term_of (kernel s)) v.items → term (Seq w) ≡ term_of (kernel (stmt.Seq v))
started_seq v w h = term_seq w ∙ ap (λ l. seq (terms l)) h ∙ sym (ap seq (terms_started v.items)) ∙ sym (ap term_of (kernel_seq v))

pub started_par : (v : Vec Stmt Global) (w : Vec Form Global) → map term w.items ≡ map (λ s. term_of (kernel s)) v.items → term (Par w) ≡ term_of (kernel (stmt.Par v))
started_par v w h = term_par w ∙ ap (λ l. par (terms l)) h ∙ sym (ap par (terms_started v.items)) ∙ sym (ap term_of (kernel_par v))

terms_ticked : (vs : Vars) (fs : List Form) → tick_all vs (terms (map term fs)) ≡ terms (map (λ f. tick vs (term f)) fs)
terms_ticked vs [] = refl
terms_ticked vs (f ∷ fs) = ap (part (tick vs (term f))) (terms_ticked vs fs)

pub ticked_seq : (vs : Vars) (v w : Vec Form Global) → map term w.items ≡ map (λ f. tick vs (term f)) v.items → term (Seq w) ≡ tick vs (term (Seq v))
ticked_seq vs v w h = term_seq w ∙ ap (λ l. seq (terms l)) h ∙ sym (ap seq (terms_ticked vs v.items)) ∙ sym (ap (tick vs) (term_seq v))

pub ticked_par : (vs : Vars) (v w : Vec Form Global) → map term w.items ≡ map (λ f. tick vs (term f)) v.items → term (Par w) ≡ tick vs (term (Par v))
ticked_par vs v w h = term_par w ∙ ap (λ l. par (terms l)) h ∙ sym (ap par (terms_ticked vs v.items)) ∙ sym (ap (tick vs) (term_par v))

pub copied_seq : (v w : Vec Form Global) → map term w.items ≡ map term v.items → term (Seq w) ≡ term (Seq v)
copied_seq v w h = term_seq w ∙ ap (λ l. seq (terms l)) h ∙ sym (term_seq v)

pub copied_par : (v w : Vec Form Global) → map term w.items ≡ map term v.items → term (Par w) ≡ term (Par v)
copied_par v w h = term_par w ∙ ap (λ l. par (terms l)) h ∙ sym (term_par v)
