-- One part more of a sequence or of a parallel.
use Rattle.std.proofs.Common.{◌≡◌, ◌≢◌, Bool, true, false, ◌&&◌, List, [], ◌∷◌, ◌++◌, map, Option, Some, option_map, refl, sym, ap, ap₂, ◌∙◌, append_assoc, append-nil}
use Rattle.quartz_expr.specs.Terms.{Term, seq, par, Terms, none, part}
use Rattle.quartz_expr.specs.React.{Reaction, Reactions, sequence, goes_on, beside, together, unless_ended}
use Rattle.sos_model.specs.declared.form.Form.{Form}
use Rattle.sos_model.specs.declared.found.Found.{Found}
use Rattle.sos_model.specs.declared.passed.Passed.{Passed}
use Rattle.sos_model.specs.declared.passed.Beside.{Beside}
use Rattle.sos_model.specs.FormTerms.{term, terms}
use Rattle.sos_model.specs.Found.{held_or, met_of, reaction_of}
use Rattle.sos_model.specs.Passed.{behind, behind_all, before}
use Rattle.quartz_expr.proofs.TruthLemmas.{and_assoc}

pub sequence_alone : (t : Term) (fs : List Form) → fs ≡ [] → sequence t (terms (map term fs)) ≡ t
sequence_alone t [] h = refl
sequence_alone t (f ∷ fs) h = absurd (cc)

pub sequence_more : (t : Term) (fs : List Form) → fs ≢ [] → sequence t (terms (map term fs)) ≡ seq (part t (terms (map term fs)))
sequence_more t [] h = absurd (h refl)
sequence_more t (f ∷ fs) h = refl

pub map_append : {A B : Type 0} (f : A → B) (xs ys : List A) → map f (xs ++ ys) ≡ map f xs ++ map f ys
map_append f [] ys = refl
map_append f (x ∷ xs) ys = ap (λ l. f x ∷ l) (map_append f xs ys)

-- two reactions with equal fields
same_reaction : (q p : Reaction) → q.residual ≡ p.residual → q.held ≡ p.held → q.acts ≡ p.acts → q.faults ≡ p.faults → q.met ≡ p.met → q.ended ≡ p.ended → q ≡ p
same_reaction q p a b c d e f = λ i. record { residual = a i; held = b i; acts = c i; faults = d i; met = e i; ended = f i }

same_reactions : (q p : Reactions) → q.residuals ≡ p.residuals → q.helds ≡ p.helds → q.acts ≡ p.acts → q.faults ≡ p.faults → q.met ≡ p.met → q.ended ≡ p.ended → q ≡ p
same_reactions q p a b c d e f = λ i. record { residuals = a i; helds = b i; acts = c i; faults = d i; met = e i; ended = f i }

appended : {A : Type 0} (xs ys zs all : List A) → all ≡ xs ++ ys → all ++ zs ≡ xs ++ (ys ++ zs)
appended xs ys zs all h = ap (λ l. l ++ zs) h ∙ append_assoc xs ys zs

pub passed_more : (b c : Passed) (t : Term) (f : Found) (ts : Terms) (p : Reaction) → option_map term c.held ≡ Some (held_or (option_map term b.held) (seq (part (held_or (option_map term f.held) t) ts)))
    → c.acts.items ≡ b.acts.items ++ f.acts.items → c.faults.items ≡ b.faults.items ++ f.faults.items → c.met.items ≡ b.met.items ++ f.met.items
    → behind c p ≡ behind b (goes_on ts (reaction_of t f) p)
passed_more b c t f ts p h a d m =
    same_reaction (behind c p) (behind b (goes_on ts (reaction_of t f) p)) refl
    (ap (λ (o : Option Term). held_or o p.held) h)
    (appended b.acts.items f.acts.items p.acts c.acts.items a)
    (appended b.faults.items f.faults.items p.faults c.faults.items d)
    (appended (map met_of b.met.items) (map met_of f.met.items) p.met (map met_of c.met.items) (ap (map met_of) m ∙ map_append met_of b.met.items f.met.items))
    refl

before_more : (rs : List Term) (r : Term) (ts : Terms) → before (rs ++ r ∷ []) ts ≡ before rs (part r ts)
before_more [] r ts = refl
before_more (t ∷ rs) r ts = ap (part t) (before_more rs r ts)

before_form : (fs gs : List Form) (f : Form) (ts : Terms) → gs ≡ fs ++ f ∷ [] → before (map term gs) ts ≡ before (map term fs) (part (term f) ts)
before_form fs gs f ts h = ap (λ l. before (map term l) ts) h ∙ ap (λ l. before l ts) (map_append term fs (f ∷ [])) ∙ before_more (map term fs) (term f) ts

pub beside_more : (b c : Beside) (t : Term) (f : Found) (k : Form) (p : Reactions) → c.residuals.items ≡ b.residuals.items ++ f.residual ∷ [] → c.helds.items ≡ b.helds.items ++ k ∷ [] → term k ≡ held_or (option_map term f.held) t
    → c.acts.items ≡ b.acts.items ++ f.acts.items → c.faults.items ≡ b.faults.items ++ f.faults.items → c.met.items ≡ b.met.items ++ f.met.items
    → c.ended ≡ (b.ended && f.ended) → behind_all c p ≡ behind_all b (beside (reaction_of t f) p)
beside_more b c t f k p r h g a d m e =
    same_reactions (behind_all c p) (behind_all b (beside (reaction_of t f) p))
    (before_form b.residuals.items c.residuals.items f.residual p.residuals r)
    (before_form b.helds.items c.helds.items k p.helds h ∙ ap (λ (u : Term). before (map term b.helds.items) (part u p.helds)) g)
    (appended b.acts.items f.acts.items p.acts c.acts.items a)
    (appended b.faults.items f.faults.items p.faults c.faults.items d)
    (appended (map met_of b.met.items) (map met_of f.met.items) p.met (map met_of c.met.items) (ap (map met_of) m ∙ map_append met_of b.met.items f.met.items))
    (ap (λ x. x && p.ended) e ∙ and_assoc b.ended f.ended p.ended)

before_none : (rs : List Term) → before rs none ≡ terms rs
before_none [] = refl
before_none (r ∷ rs) = ap (part r) (before_none rs)

pub all_beside : (fs : List Form) → before (map term fs) none ≡ terms (map term fs)
all_beside fs = before_none (map term fs)

and_true : (a : Bool) → (a && true) ≡ a
and_true true = refl
and_true false = refl

pub finished : (b : Beside) (t : Term) (f : Found) → term f.residual ≡ unless_ended b.ended (par (terms (map term b.residuals.items))) → held_or (option_map term f.held) t ≡ par (terms (map term b.helds.items))
    → f.acts.items ≡ b.acts.items → f.faults.items ≡ b.faults.items → f.met.items ≡ b.met.items → f.ended ≡ b.ended
    → reaction_of t f ≡ together (behind_all b (record { residuals = none; helds = none; acts = []; faults = []; met = []; ended = true }))
finished b t f r h a d m e =
    same_reaction (reaction_of t f) (together (behind_all b (record { residuals = none; helds = none; acts = []; faults = []; met = []; ended = true })))
    (r ∙ ap₂ (λ (x : Bool) (t : Terms). unless_ended x (par t)) (sym (and_true b.ended)) (sym (all_beside b.residuals.items)))
    (h ∙ ap par (sym (all_beside b.helds.items)))
    (a ∙ sym (append-nil b.acts.items))
    (d ∙ sym (append-nil b.faults.items))
    (ap (map met_of) m ∙ sym (append-nil (map met_of b.met.items)))
    (e ∙ sym (and_true b.ended))
