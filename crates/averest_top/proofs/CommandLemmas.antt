-- What holds of a command's task holds of the task that is meant.
use Rattle.std.proofs.Common.{◌≡◌, ℕ, List, Some, None, refl, sym, ap, subst, ◌∙◌}
use Rattle.std.specs.Prelude.{Option, unwrap_or, option_map, option_and_then}
use Rattle.command_words.specs.declared.command.Command.{Command}
use Rattle.command_words.specs.Words.{meant}
use Rattle.averest_top.specs.declared.task.Task.{Task}
use Rattle.averest_top.specs.Commands.{asked_in, calls_asked, calls_of, module_in, task_in, task_meant}

-- words that mean a command mean its task
pub task_of_words : (words : List (List ℕ)) (c : Command) (r : Option (List ℕ × Task)) → meant words ≡ Some c → task_meant words ≡ r → asked_in c ≡ r
task_of_words words c r h k = sym (ap (λ m. option_and_then asked_in m) h) ∙ k

-- a task and its module are those of the command
pub same_task : (P : List ℕ → Task → Type 0) (c : Command) (own : List ℕ) (t : Task) (name : List ℕ) (other : Task) → own ≡ module_in c → Some t ≡ task_in c → asked_in c ≡ Some (name, other) → P own t → P name other
same_task P c own t name other m e a p =
    let both : ◌≡◌ {A = Option (List ℕ × Task)} (Some (own, t)) (Some (name, other)) =
    ap (λ (n : List ℕ). Some (n, t)) m ∙ (ap (λ (o : Option Task). option_map (λ u. (module_in c, u)) o) e ∙ a) in
    subst (λ (r : List ℕ × Task). P r.0 r.1) (ap (λ (o : Option (List ℕ × Task)). unwrap_or o (name, other)) both) p

-- a command of which nothing is asked has no task
pub no_task : (c : Command) → asked_in c ≡ None → task_in c ≡ None
no_task c h = by_task (task_in c) h
  where
    by_task : (o : Option Task) → option_map {U = List ℕ × Task} (λ t. (module_in c, t)) o ≡ None → o ≡ None
    by_task None e = refl
    by_task (Some t) e = absurd (cc e)

-- it asks the source as often as its task
pub calls_of_task : (c : Command) (t : Task) → Some t ≡ task_in c → calls_of t ≡ calls_asked (asked_in c)
calls_of_task c t e = ap (λ (o : Option Task). calls_asked (option_map (λ u. (module_in c, u)) o)) e

-- and words as often as the command that they mean
pub calls_of_words : (words : List (List ℕ)) (c : Command) → meant words ≡ Some c → calls_asked (asked_in c) ≡ calls_asked (task_meant words)
calls_of_words words c h = ap (λ (m : Option Command). calls_asked (option_and_then asked_in m)) (sym h)

-- a command without a task asks for no module
pub never_asked : (c : Command) (name : List ℕ) (t : Task) {X : Type 0} → None ≡ task_in c → asked_in c ≡ Some (name, t) → X
never_asked c name t e a =
    let both : ◌≡◌ {A = Option (List ℕ × Task)} None (Some (name, t)) = ap (λ (o : Option Task). option_map (λ u. (module_in c, u)) o) e ∙ a in
    absurd (cc both)
