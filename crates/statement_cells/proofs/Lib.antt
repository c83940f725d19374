-- A map of these proofs. An arrow says on which parts or files a part or a file rests, beside what stands above it in its part.
--
-- What is proved. A builder adds cells, actions, entries and monitors; what these say under an assignment is a trail.
-- `open_walk` says that what a statement adds is a run of its term: a trail that tells a reaction of the semantics, with what
-- labels and registers take. `solutions_are_macro_steps` puts outputs and registers around the body. The assignment need not
-- meet the equations of value cells on the way, since a scope's value cells are read before they are defined: each scope
-- is closed where its copy ends, and only at the very end all value cells meet their equations.
--
-- Reading order: 1, 2, then 3 to 6 in any order, 7, 8. Part 9 stands beside, and part 10 computes examples.
--
-- 1. Values and marks, with no builder in them
--   BoolLemmas          truth values as numbers
--   MarkLemmas          labels of ranges, and the terms for which labels and registers stand
--   TrailLemmas         trails one behind the other: what builders say, piece by piece
--   ReactLemmas         what reactions leave and hold
--   RunLemmas           runs in other words: choices, and ranges of trails
--   PlainLemmas         terms without stores keep no event's value
--   UnplainLemmas       terms react alike if they differ in the kept values of events alone
--   LiesLemmas          what reactions write lies in the ranges of variables
--   TreeValueLemmas     the tree of a typed expression has its value
--   TestLemmas          the tests of an expression raise its faults                          <- TreeValueLemmas
--
-- 2. How builders grow: what is there stays
--   GrowLemmas          cells stay, and value cells stand behind those that were there
--   ScopeGrowLemmas     the same of a scope, with reserved value cells
--   WholeLemmas         the same of what is built behind the body
--   CellLemmas          what `not`, `and`, `or` and labels of the builder give
--   WatchLemmas         the monitors of an expression                                        <- 1
--   WriteLemmas         a write: its act and its faults
--   SurfaceGrowLemmas   surface and depth of each statement                                  <- ScopeWalkLemmas (5)
--
-- 3. Runs of each form of statement, told of trails alone                                    <- 1
--   PauseLemmas, TurnLemmas (sequences), LoopLemmas, AbortLemmas
--   SleepLemmas (delayed suspensions), WaitLemmas and ImmediateLemmas (immediate ones, with a wait label)
--   ParLemmas, BesideLemmas (parallels, part by part)
--
-- 4. The walk: what surface and depth add is the run of part 3, form by form                 <- 1, 2, 3
--   WalkLemmas, WalkGuardLemmas    surfaces: plain forms, and preemptions
--   ResumeLemmas, ResumeGuardLemmas    depths: plain forms, and preemptions
--   WalkParLemmas       parallels, both ways
--
-- 5. Scopes                                                                                  <- 1, 2
--   ScopeEnvLemmas      the environment inside
--   ScopeCopyLemmas     what is written to a copy, and what it goes on from
--   ScopeTakesLemmas    what registers take of a closed copy, and the store for which they stand
--   ScopeCloseLemmas    what a closed copy says: resolving of the acts, and its conflicts
--   ScopeEndLemmas      what is built behind a closed copy
--   ScopeRunLemmas      a run of a scope from a run of its body
--   ScopeWalkLemmas     the walk through a scope, given that through its body
--
-- 6. Where registers of scopes stand
--   PlaceLemmas, PlacedLemmas    copies with registers stand at the scopes of the statement
--   DepthLemmas         each such scope has one copy with store
--   HoldLemmas, ScopeHoldLemmas    registers hold what they take: of the first copy that was entered, else of the stored one
--
-- 7. One step
--   OpenWalkLemmas      `open_walk`: all forms together, by induction                        <- 4, 5
--   BeginLemmas         the copies with which the body begins
--   BodyLemmas          the body reacts: it starts in the first step, and goes on in others
--   EndLemmas           outputs are closed, and all value cells meet their equations
--   StepLemmas          under a solution the body reacts, and outputs are resolved
--
-- 8. The next state                                                                          <- 6, 7
--   StartLemmas         initial registers stand for the initial state
--   LabelLemmas         what labels take
--   CarryLemmas         what the registers of outputs and scopes take
--   ScopeBelowLemmas, ScopesNextLemmas    registers of all scopes, by the parts of the statement
--   NextLemmas          `solutions_are_macro_steps`
--
-- 9. Cells name earlier cells, `cells_name_earlier_cells`: from one builder to the next       <- 2, and ScopeCopyLemmas, ScopeEndLemmas
--   EarlierTreeLemmas, EarlierMoreLemmas, EarlierLemmas    trees, bounds, and what later builders keep
--   EarlierCloseLemmas, EarlierScopeLemmas    closed copies, and scopes
--   EarlierSurfaceLemmas, EarlierDepthLemmas    surfaces and depths
--   EarlierWholeLemmas, EarlierTakenLemmas, EarlierCompiledLemmas    the body, what registers take, the whole module
--
-- 10. ExampleLemmas     cells of worked modules, by computation

pub mod AbortLemmas
pub mod BeginLemmas
pub mod BesideLemmas
pub mod BodyLemmas
pub mod BoolLemmas
pub mod CarryLemmas
pub mod CellLemmas
pub mod DepthLemmas
pub mod EarlierCloseLemmas
pub mod EarlierCompiledLemmas
pub mod EarlierDepthLemmas
pub mod EarlierLemmas
pub mod EarlierMoreLemmas
pub mod EarlierScopeLemmas
pub mod EarlierSurfaceLemmas
pub mod EarlierTakenLemmas
pub mod EarlierTreeLemmas
pub mod EarlierWholeLemmas
pub mod EndLemmas
pub mod ExampleLemmas
pub mod GrowLemmas
pub mod HoldLemmas
pub mod ImmediateLemmas
pub mod LabelLemmas
pub mod LiesLemmas
pub mod LoopLemmas
pub mod MarkLemmas
pub mod NextLemmas
pub mod OpenWalkLemmas
pub mod ParLemmas
pub mod PauseLemmas
pub mod PlaceLemmas
pub mod PlacedLemmas
pub mod PlainLemmas
pub mod ReactLemmas
pub mod ResumeGuardLemmas
pub mod ResumeLemmas
pub mod RunLemmas
pub mod ScopeBelowLemmas
pub mod ScopeCloseLemmas
pub mod ScopeCopyLemmas
pub mod ScopeEndLemmas
pub mod ScopeEnvLemmas
pub mod ScopeGrowLemmas
pub mod ScopeHoldLemmas
pub mod ScopeRunLemmas
pub mod ScopeTakesLemmas
pub mod ScopeWalkLemmas
pub mod ScopesNextLemmas
pub mod SleepLemmas
pub mod StartLemmas
pub mod StepLemmas
pub mod SurfaceGrowLemmas
pub mod TestLemmas
pub mod TrailLemmas
pub mod TreeValueLemmas
pub mod TurnLemmas
pub mod UnplainLemmas
pub mod WaitLemmas
pub mod WalkGuardLemmas
pub mod WalkLemmas
pub mod WalkParLemmas
pub mod WatchLemmas
pub mod WholeLemmas
pub mod WriteLemmas
