-- With which statuses the tasks end, and what comes of words.
use Rattle.std.proofs.Common.{◌≡◌, ◌⊎◌, inl, inr, ℕ, List, Option, Some, None, refl, sym, ap, subst}
use Rattle.std.specs.Prelude.{option_map, option_and_then}
use Rattle.outside.specs.declared.status.Status.{Status}
use Rattle.outside.specs.declared.status.Status.TheVariants.{Usage, ModuleUnavailable, Refused, BadInput, RunFault, ReadFault, WriteFault, StepLimit, NoMemory, BadWitness}
use Rattle.outside.specs.declared.status.Status.TheVariants as status
use Rattle.command_words.specs.declared.command.Command.{Command}
use Rattle.command_words.specs.Words.{meant}
use Rattle.quartz_build.specs.declared.fault.BuildFault.{BuildFault}
use Rattle.quartz_build.specs.declared.fault.BuildFault.TheVariants as fault
use Rattle.averest_top.specs.declared.task.Task.{Task}
use Rattle.averest_top.specs.declared.task.Task.TheVariants as task
use Rattle.averest_top.specs.Commands.{asked_in, module_in, task_in, task_meant}
use Rattle.averest_top.specs.Promise.{CanCome, ComesBefore, refusal_status}
use Rattle.convert_run.specs.Told.{IsOfConvert}
use Rattle.averest_top.specs.Tasks.{EndsAs, IsOfTask}

pub run_ends : (most : ℕ) (s : Status) → IsOfTask s → EndsAs (task.Run most) s
run_ends most status.Ok o = tt
run_ends most (BadInput k) o = tt
run_ends most (RunFault k q p) o = tt
run_ends most ReadFault o = tt
run_ends most WriteFault o = tt
run_ends most StepLimit o = tt
run_ends most NoMemory o = tt
run_ends most Usage o = absurd o
run_ends most ModuleUnavailable o = absurd o
run_ends most (Refused q p) o = absurd o
run_ends most (BadWitness k) o = absurd o

pub load_ends : (seed steps : ℕ) (s : Status) → IsOfTask s → ¬ (s ≡ ReadFault) → EndsAs (task.Load seed steps) s
load_ends seed steps status.Ok o r = tt
load_ends seed steps (BadInput k) o r = tt
load_ends seed steps (RunFault k q p) o r = tt
load_ends seed steps ReadFault o r = absurd (r refl)
load_ends seed steps WriteFault o r = tt
load_ends seed steps StepLimit o r = tt
load_ends seed steps NoMemory o r = tt
load_ends seed steps Usage o r = absurd o
load_ends seed steps ModuleUnavailable o r = absurd o
load_ends seed steps (Refused q p) o r = absurd o
load_ends seed steps (BadWitness k) o r = absurd o

-- the ends of converting are ends of a task, and of this one
module _ (to : ℕ) where
  converted : (s : Status) → IsOfConvert s → IsOfTask s × EndsAs (task.Convert to) s
  converted status.Ok o = (tt, tt)
  converted (BadInput k) o = (tt, tt)
  converted ReadFault o = (tt, tt)
  converted WriteFault o = (tt, tt)
  converted StepLimit o = (tt, tt)
  converted (RunFault k q p) o = absurd o
  converted NoMemory o = absurd o
  converted Usage o = absurd o
  converted ModuleUnavailable o = absurd o
  converted (Refused q p) o = absurd o
  converted (BadWitness k) o = absurd o

  pub convert_ends : (s : Status) → (s ≡ NoMemory) ⊎ IsOfConvert s → IsOfTask s × EndsAs (task.Convert to) s
  convert_ends s (inl e) = subst (λ (n : Status). IsOfTask n × EndsAs (task.Convert to) n) (sym e) (tt, tt)
  convert_ends s (inr o) = converted s o

-- a text that is put, or not
pub written_ends : (t : Task) (s : Status) → (s ≡ status.Ok) ⊎ (s ≡ WriteFault) → EndsAs t s
written_ends t s (inl e) = subst (EndsAs t) (sym e) tt
written_ends t s (inr e) = subst (EndsAs t) (sym e) tt

-- a text that is refused has no task begun
pub refusal_before : (f : BuildFault) → ComesBefore (refusal_status f)
refusal_before (fault.Refused r p) = tt
refusal_before fault.NoMemory = tt

pub comes_before : (asked : Option (List ℕ × Task)) (s : Status) → ComesBefore s → CanCome asked s
comes_before None s b = b
comes_before (Some a) s b = inl b

-- what comes of a command's task comes of the command, and so of words that mean it
pub comes_of_task : (c : Command) (t : Task) (s : Status) → Some t ≡ task_in c → CanCome (Some (module_in c, t)) s → CanCome (asked_in c) s
comes_of_task c t s e h =
    let asked : Some (module_in c, t) ≡ asked_in c = ap (λ (o : Option Task). option_map (λ u. (module_in c, u)) o) e in
    subst (λ (o : Option (List ℕ × Task)). CanCome o s) asked h

pub comes_of_words : (words : List (List ℕ)) (c : Command) (s : Status) → meant words ≡ Some c → CanCome (asked_in c) s → CanCome (task_meant words) s
comes_of_words words c s e h =
    let asked : asked_in c ≡ task_meant words = ap (λ (m : Option Command). option_and_then asked_in m) (sym e) in
    subst (λ (o : Option (List ℕ × Task)). CanCome o s) asked h
