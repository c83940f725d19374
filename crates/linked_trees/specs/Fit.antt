-- Calls that fit: each names a module that stands lower, with arguments that suit its parameters.
use Rattle.std.specs.Prelude.{◌≡◌, ℕ, ◌+◌, ◌<◌, Bool, true, false, List, [], ◌∷◌, length, slice_get, Option, Some, None}
use Rattle.quartz_tree.specs.declared.surface.Arg.{Arg}
use Rattle.quartz_tree.specs.declared.declare.Decl.{Decl}
use Rattle.quartz_tree.specs.declared.declare.Flow.TheVariants.{Inner}
use Rattle.quartz_tree.specs.declared.declare.Var.{Var}
use Rattle.quartz_tree.specs.Surfaces.{Word, Written, block, choose, choose_one, loop, always, while, do_while, guard, call, Branch, done, then, Branches, none, beside, ModuleTree}
use Rattle.quartz_tree.specs.Expand.{expanded, expanded_branch}
use Rattle.quartz_expr.specs.Vars.{Vars}
use Rattle.quartz_names.specs.Scopes.{Scope, declared}
use Rattle.quartz_names.specs.Numbering.{locals, locals_of_branch}
use Rattle.quartz_names.specs.Resolving.{body_scope, resolved_vars}
use Rattle.linked_trees.specs.Naming.{module_named}

-- an argument is a variable of the parameter's type
pub record IsArg (vs : Vars) (sc : Scope) (p : Decl) (a : Arg) : Type 0 where
  pub number : ℕ
  pub var : Var
  pub stands : sc a.name ≡ Some number
  pub at : slice_get vs number ≡ Some var
  pub ty : var.decl.ty ≡ p.ty

abbrev pub ArgsSuit : Vars → Scope → List Decl → List Arg → Type 0
ArgsSuit vs sc [] [] = Unit {0}
ArgsSuit vs sc (p ∷ ps) (a ∷ args) = IsArg vs sc p a × ArgsSuit vs sc ps args
ArgsSuit vs sc _ _ = ⊥

-- the body of a module as texts have it
abbrev pub is_block : Written → Bool
is_block (block _ _) = true
is_block _ = false

-- each declared name is plain
abbrev pub AllPlain : (is_plain : Word → Bool) → List Decl → Type 0
AllPlain is_plain [] = Unit {0}
AllPlain is_plain (d ∷ ds) = (is_plain d.name ≡ true) × AllPlain is_plain ds

-- each is a local
abbrev pub AreInner : List Decl → Type 0
AreInner [] = Unit {0}
AreInner (d ∷ ds) = (d.flow ≡ Inner) × AreInner ds

module _ (is_plain : Word → Bool) (ms : List ModuleTree) (counts : Word → Type 0) (height : Word → ℕ) where
  -- a call of a module that counts and stands lower, with arguments that suit it
  pub record IsCall (top : ℕ) (vs : Vars) (sc : Scope) (m : Word) (args : List Arg) : Type 0 where
    pub called : ModuleTree
    pub found : module_named ms m ≡ Some called
    pub counted : counts m
    pub lower : height m < top
    pub suits : ArgsSuit vs sc called.params args

  -- the calls of a statement, with what is declared where they stand
  abbrev mutual
    pub Calls : (top : ℕ) → Vars → Scope → ℕ → Written → Type 0
    Calls top vs sc n (block ds bs) = AllPlain is_plain ds × CallsInBranches top vs (declared sc n ds) (n + length ds) bs
    Calls top vs sc n (choose _ a b) = Calls top vs sc n a × Calls top vs sc (n + length (locals (expanded a))) b
    Calls top vs sc n (choose_one _ a) = Calls top vs sc n a
    Calls top vs sc n (loop s _) = Calls top vs sc n s
    Calls top vs sc n (always s _) = Calls top vs sc n s
    Calls top vs sc n (while _ s _) = Calls top vs sc n s
    Calls top vs sc n (do_while s _ _) = Calls top vs sc n s
    Calls top vs sc n (guard _ _ _ s _) = Calls top vs sc n s
    Calls top vs sc n (call m args _) = IsCall top vs sc m args
    Calls top vs sc n _ = Unit {0}

    pub CallsInBranch : (top : ℕ) → Vars → Scope → ℕ → Branch → Type 0
    CallsInBranch top vs sc n done = Unit {0}
    CallsInBranch top vs sc n (then s rest) = Calls top vs sc n s × CallsInBranch top vs sc (n + length (locals (expanded s))) rest

    pub CallsInBranches : (top : ℕ) → Vars → Scope → ℕ → Branches → Type 0
    CallsInBranches top vs sc n none = Unit {0}
    CallsInBranches top vs sc n (beside b rest) = CallsInBranch top vs sc n b × CallsInBranches top vs sc (n + length (locals_of_branch (expanded_branch b))) rest

  -- the calls of each module that counts are fit
  abbrev pub AllCalls : Type 0
  AllCalls = (x : Word) (t : ModuleTree) → counts x → module_named ms x ≡ Some t → Calls (height x) (resolved_vars t) (body_scope t) (length t.params) t.body
