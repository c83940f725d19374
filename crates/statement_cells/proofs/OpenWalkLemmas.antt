-- The walk through builders, for all statements.
use Rattle.std.proofs.Common.{true, false, None, Some}
use Rattle.quartz_expr.specs.Vars.{Vars}
use Rattle.quartz_expr.specs.Typed.{AreSound as AreSoundVars}
use Rattle.quartz_expr.specs.Terms.{Term, nothing, pause, write, choose, seq, par, loop, abort, suspend, scope, Terms, none, part}
use Rattle.aif_cells.specs.Worth.{Assignment}
use Rattle.statement_cells.specs.Sound.{IsSound, AreSound}
use Rattle.statement_cells.specs.Walk.{Starts, GoesOn}
use Rattle.statement_cells.proofs.SurfaceGrowLemmas.{surface_grows, depth_grows}
use Rattle.statement_cells.proofs.ScopeWalkLemmas.{start_scope_walks, resume_scope_walks}
use Rattle.statement_cells.proofs.WalkLemmas.{StartsWell, PartsStartWell, surfaces, starts_well_nothing, starts_well_write, starts_well_choose, starts_well_none, starts_well_turn, starts_well_seq, starts_well_loop}
use Rattle.statement_cells.proofs.WalkGuardLemmas.{starts_well_pause, starts_well_delayed_abort, starts_well_delayed_suspend, starts_well_strong_abort, starts_well_weak_abort, starts_well_strong_suspend, starts_well_weak_suspend}
use Rattle.statement_cells.proofs.WalkParLemmas.{EachStartsWell, nobody_starts, beside_starts, starts_well_par, EachGoesWell, nobody_goes, beside_goes, goes_well_par}
use Rattle.statement_cells.proofs.ResumeLemmas.{GoesWell, PartsGoWell, depths, goes_well_nothing, goes_well_write, goes_well_choose, goes_well_loop, goes_well_none, goes_well_turn, goes_well_seq, goes_well_strong_abort, goes_well_weak_abort}
use Rattle.statement_cells.proofs.ResumeGuardLemmas.{goes_well_pause, goes_well_strong_suspend, goes_well_weak_suspend, goes_well_strong_wait, goes_well_weak_wait}

module _ (vs : Vars) (σ : Assignment) (types : AreSoundVars vs) where
  mutual
    pub start_walks : (s : Term) → IsSound vs s → StartsWell vs σ types s
    start_walks nothing h = starts_well_nothing vs σ types
    start_walks pause h = starts_well_pause vs σ types
    start_walks (write x i e d p q) h = starts_well_write vs σ types x i e d p q h
    start_walks (choose c a b) h = starts_well_choose vs σ types c a b h (start_walks a h.1) (start_walks b h.2)
    start_walks (seq ts) h = starts_well_seq vs σ types ts (turn_starts ts h)
    start_walks (par ts) h = starts_well_par vs σ types ts h (each_starts ts h)
    start_walks (loop t c) h = starts_well_loop vs σ types t c h (start_walks t h.2)
    start_walks (abort weak false t c) h = starts_well_delayed_abort vs σ types t weak c (start_walks t h.1)
    start_walks (abort false true t c) h = starts_well_strong_abort vs σ types t c h (start_walks t h.1)
    start_walks (abort true true t c) h = starts_well_weak_abort vs σ types t c h (start_walks t h.1)
    start_walks (suspend weak false t c) h = starts_well_delayed_suspend vs σ types t weak c (start_walks t h.1)
    start_walks (suspend false true t c) h = starts_well_strong_suspend vs σ types t c h (start_walks t h.1)
    start_walks (suspend true true t c) h = starts_well_weak_suspend vs σ types t c h (start_walks t h.1)
    start_walks (scope x None t) h = start_scope_walks vs σ x t h.0 (λ κ l v go move β. surface_grows vs σ t κ l v go move β h.3) (surfaces vs σ types t (start_walks t h.3))
    start_walks (scope x (Some s) t) h = absurd h.1

    turn_starts : (ts : Terms) → AreSound vs ts → PartsStartWell vs σ types ts
    turn_starts none h = starts_well_none vs σ types
    turn_starts (part t ts) h = starts_well_turn vs σ types t ts h (start_walks t h.0) (turn_starts ts h.1)

    each_starts : (ts : Terms) → AreSound vs ts → EachStartsWell vs σ types ts
    each_starts none h = nobody_starts vs σ types
    each_starts (part t ts) h = beside_starts vs σ types t ts h (start_walks t h.0) (each_starts ts h.1)

  mutual
    pub resume_walks : (s : Term) → IsSound vs s → GoesWell vs σ types s
    resume_walks nothing h = goes_well_nothing vs σ types
    resume_walks pause h = goes_well_pause vs σ types
    resume_walks (write x i e d p q) h = goes_well_write vs σ types x i e d p q
    resume_walks (choose c a b) h = goes_well_choose vs σ types c a b h (resume_walks a h.1) (resume_walks b h.2)
    resume_walks (seq ts) h = goes_well_seq vs σ types ts (turn_goes ts h)
    resume_walks (par ts) h = goes_well_par vs σ types ts h (each_goes ts h)
    resume_walks (loop t c) h = goes_well_loop vs σ types t c h (start_walks t h.2) (resume_walks t h.2)
    resume_walks (abort false immediate t c) h = goes_well_strong_abort vs σ types t immediate c h (resume_walks t h.1)
    resume_walks (abort true immediate t c) h = goes_well_weak_abort vs σ types t immediate c h (resume_walks t h.1)
    resume_walks (suspend false false t c) h = goes_well_strong_suspend vs σ types t c h (resume_walks t h.1)
    resume_walks (suspend true false t c) h = goes_well_weak_suspend vs σ types t c h (resume_walks t h.1)
    resume_walks (suspend false true t c) h = goes_well_strong_wait vs σ types t c h (start_walks t h.1) (resume_walks t h.1)
    resume_walks (suspend true true t c) h = goes_well_weak_wait vs σ types t c h (start_walks t h.1) (resume_walks t h.1)
    resume_walks (scope x s t) h = resume_scope_walks vs σ x t s h.0 (λ κ l v res move stay β. depth_grows vs σ t κ l v res move stay β h.3) (depths vs σ types t (resume_walks t h.3))

    turn_goes : (ts : Terms) → AreSound vs ts → PartsGoWell vs σ types ts
    turn_goes none h = goes_well_none vs σ types
    turn_goes (part t ts) h = goes_well_turn vs σ types t ts h (start_walks t h.0) (resume_walks t h.0) (turn_goes ts h.1)

    each_goes : (ts : Terms) → AreSound vs ts → EachGoesWell vs σ types ts
    each_goes none h = nobody_goes vs σ types
    each_goes (part t ts) h = beside_goes vs σ types t ts h (resume_walks t h.0) (each_goes ts h.1)

pub all_start : Starts
all_start vs σ κ l v s go move β types cur sound built h = surfaces vs σ types s (start_walks vs σ types s sound) κ l v go move β cur built h

pub all_go_on : GoesOn
all_go_on vs σ κ l v s res move stay β types cur sound built one excl h = depths vs σ types s (resume_walks vs σ types s sound) κ l v res move stay β cur built one (λ x. excl) h
