-- No list of a called module repeats a name, where the linked module keeps the rule of names: by induction on the
-- statement, which tells what holds of its own lists and of the blocks that stand for its calls; then along the calls by
-- which a module is reached.
use Rattle.std.proofs.Common.{◌≡◌, ◌<◌, ◌≤◌, ℕ, zero, suc, ◌+◌, Bool, true, false, List, [], ◌∷◌, ◌++◌, length, map, Contains, Option, Some, None, is_none, refl, sym, ap, ◌∙◌, subst, arith, get_or}
use Rattle.std.specs.List.{AllByRecursion}
use Rattle.quartz_tree.specs.declared.declare.Decl.{Decl}
use Rattle.quartz_tree.specs.declared.place.Place.{Place}
use Rattle.quartz_tree.specs.Expand.{expanded, expanded_branch, expanded_branches, then_pause}
use Rattle.quartz_tree.specs.Surfaces.{Word, Written, empty, pause, halt, await, emit, write, block, choose, choose_one, loop, always, while, do_while, guard, call, Branch, done, then, Branches, none, beside, ModuleTree}
use Rattle.quartz_expr.proofs.TruthLemmas.{none_left}
use Rattle.quartz_names.specs.Scopes.{Scope, declared}
use Rattle.quartz_names.specs.NameRules.{name_breaks, name_breaks_in_branch, name_breaks_in_branches, repeated, undeclared}
use Rattle.linked_trees.specs.Linking.{Linker, linked, linked_branch, linked_branches, called_block, linker, passes, renamed_decl, respelled, spelled_args, entered}
use Rattle.linked_trees.specs.Naming.{Names, module_named}
use Rattle.call_rules.specs.Around.{Declared, declaring, nothing_declared}
use Rattle.call_rules.specs.CallRules.{CallsKeep}
use Rattle.call_rules.specs.Sites.{IsCallAt, Reach, Site, itself, over, sites, sites_in, sites_of_branch, sites_of_branches}
use Rattle.module_link.proofs.KnownLemmas.{Differ, unrepeated, unrepeated_renamed}
use Rattle.module_link.proofs.SiteLemmas.{IsFound, call_fits, call_found, every_among, every_append, same_tree}

-- no head of a block in the statement repeats a name
abbrev mutual
  pub Lists : Written → Type 0
  Lists (block ds bs) = Differ ds × ListsOfBranches bs
  Lists (choose _ a b) = Lists a × Lists b
  Lists (choose_one _ a) = Lists a
  Lists (loop s _) = Lists s
  Lists (always s _) = Lists s
  Lists (while _ s _) = Lists s
  Lists (do_while s _ _) = Lists s
  Lists (guard _ _ _ s _) = Lists s
  Lists _ = Unit {0}

  pub ListsOfBranch : Branch → Type 0
  ListsOfBranch done = Unit {0}
  ListsOfBranch (then s rest) = Lists s × ListsOfBranch rest

  pub ListsOfBranches : Branches → Type 0
  ListsOfBranches none = Unit {0}
  ListsOfBranches (beside b rest) = ListsOfBranch b × ListsOfBranches rest

module _ (dotted : Word → ℕ → Word) (k : Linker dotted) where
  -- a block that stands for a call keeps the rule of names
  record BlockKeeps (m : Word) : Type 0 where
    args : List Word
    number : ℕ
    all : Scope
    first : ℕ
    keeps : name_breaks all first (expanded (k.block_of m args number)) ≡ []

  abbrev SitesKeep : List Site → Type 0
  SitesKeep ss = AllByRecursion (λ (t : Site). BlockKeeps t.name) ss

  joined_sites : (xs ys : List Site) → SitesKeep xs → SitesKeep ys → SitesKeep (xs ++ ys)
  joined_sites xs ys g h = every_append (λ (t : Site). BlockKeeps t.name) xs ys g h

  mutual
    linked_keeps : (w : Written) (o : Option ℕ) (s : Names) (c : ℕ) (all : Scope) (l : ℕ) (sc : Declared) → name_breaks all l (expanded (linked dotted k o s c w)) ≡ [] → Lists w × SitesKeep (sites sc w)
    linked_keeps empty o s c all l sc e = (tt, tt)
    linked_keeps pause o s c all l sc e = (tt, tt)
    linked_keeps (halt z) o s c all l sc e = (tt, tt)
    linked_keeps (await i d z) o s c all l sc e = (tt, tt)
    linked_keeps (emit d g z) o s c all l sc e = (tt, tt)
    linked_keeps (write d g v z) o s c all l sc e = (tt, tt)
    linked_keeps (block ds bs) o s c all l sc e =
        let b = none_left (repeated (map (renamed_decl dotted o) ds)) _ e in
        let g = branches_keep bs o (entered dotted o s ds) c _ _ (declaring sc ds) b.1 in
        ((unrepeated_renamed dotted o ds b.0, g.0), g.1)
    linked_keeps (choose d a b) o s c all l sc e =
        let x = none_left (undeclared all (respelled s d)) _ e in
        let y = none_left (name_breaks all l (expanded (linked dotted k o s c a))) _ x.1 in
        let g = linked_keeps a o s c all l sc y.0 in
        let h = linked_keeps b o s _ all _ sc y.1 in
        ((g.0, h.0), joined_sites (sites sc a) (sites sc b) g.1 h.1)
    linked_keeps (choose_one d a) o s c all l sc e = let x = none_left (undeclared all (respelled s d)) _ e in linked_keeps a o s c all l sc x.1
    linked_keeps (loop a z) o s c all l sc e = let x = none_left (name_breaks all l (expanded (linked dotted k o s c a))) _ e in linked_keeps a o s c all l sc x.0
    linked_keeps (always a z) o s c all l sc e =
        let x = none_left (name_breaks all l (then_pause (expanded (linked dotted k o s c a)))) _ e in
        let y = none_left (name_breaks_in_branch all (l + 0) (then (expanded (linked dotted k o s c a)) (then pause done))) _ x.0 in
        let v = none_left (name_breaks all (l + 0) (expanded (linked dotted k o s c a))) _ y.0 in
        linked_keeps a o s c all (l + 0) sc v.0
    linked_keeps (while d a z) o s c all l sc e =
        let x = none_left (undeclared all (respelled s d)) _ e in
        let y = none_left (name_breaks all l (expanded (linked dotted k o s c a))) _ x.1 in
        linked_keeps a o s c all l sc y.0
    linked_keeps (do_while a d z) o s c all l sc e = let x = none_left (name_breaks all l (expanded (linked dotted k o s c a))) _ e in linked_keeps a o s c all l sc x.0
    linked_keeps (guard b w i a d) o s c all l sc e = let x = none_left (name_breaks all l (expanded (linked dotted k o s c a))) _ e in linked_keeps a o s c all l sc x.0
    linked_keeps (call m args z) o s c all l sc e = (tt, (record { args = spelled_args s args; number = c; all = all; first = l; keeps = e }, tt))

    branch_keeps : (b : Branch) (o : Option ℕ) (s : Names) (c : ℕ) (all : Scope) (l : ℕ) (sc : Declared) → name_breaks_in_branch all l (expanded_branch (linked_branch dotted k o s c b)) ≡ []
        → ListsOfBranch b × SitesKeep (sites_of_branch sc b)
    branch_keeps done o s c all l sc e = (tt, tt)
    branch_keeps (then a rest) o s c all l sc e =
        let y = none_left (name_breaks all l (expanded (linked dotted k o s c a))) _ e in
        let g = linked_keeps a o s c all l sc y.0 in
        let h = branch_keeps rest o s _ all _ sc y.1 in
        ((g.0, h.0), joined_sites (sites sc a) (sites_of_branch sc rest) g.1 h.1)

    branches_keep : (bs : Branches) (o : Option ℕ) (s : Names) (c : ℕ) (all : Scope) (l : ℕ) (sc : Declared) → name_breaks_in_branches all l (expanded_branches (linked_branches dotted k o s c bs)) ≡ []
        → ListsOfBranches bs × SitesKeep (sites_of_branches sc bs)
    branches_keep none o s c all l sc e = (tt, tt)
    branches_keep (beside b rest) o s c all l sc e =
        let y = none_left (name_breaks_in_branch all l (expanded_branch (linked_branch dotted k o s c b))) _ e in
        let g = branch_keeps b o s c all l sc y.0 in
        let h = branches_keep rest o s _ all _ sc y.1 in
        ((g.0, h.0), joined_sites (sites_of_branch sc b) (sites_of_branches sc rest) g.1 h.1)

module _ (dotted : Word → ℕ → Word) (ms : List ModuleTree) (main : Word) (keep : CallsKeep ms main) where
  -- some block of the module's in the linked body keeps the rule of names, with calls as deep as the module stands high
  pub record ModuleKeeps (x : Word) (t : ModuleTree) : Type 0 where
    pub depth : ℕ
    pub deep : keep.height x ≤ depth
    pub call : Option ℕ
    pub names : Names
    pub number : ℕ
    pub all : Scope
    pub first : ℕ
    pub keeps : name_breaks all first (expanded (linked dotted (linker dotted ms depth) call names number t.body)) ≡ []
    pub apart : Differ t.params

  pub lists_of : (x : Word) (t : ModuleTree) → ModuleKeeps x t → Lists t.body
  lists_of x t h = (linked_keeps dotted (linker dotted ms h.depth) t.body h.call h.names h.number h.all h.first nothing_declared h.keeps).0

  called_keeps : (y : Word) (u : ModuleTree) (d h : ℕ) → h ≤ d → keep.height y < h → module_named ms y ≡ Some u → Differ u.params → BlockKeeps dotted (linker dotted ms d) y → ModuleKeeps y u
  called_keeps y u zero h g l e a b = absurd (omega (arith, g, l))
  called_keeps y u (suc d) h g l e a b = record {
    depth = d;
    deep = omega (arith, g, l);
    call = Some b.number;
    names = passes (λ z. dotted z b.number) u.params b.args;
    number = suc b.number;
    all = b.all;
    first = b.first;
    keeps = subst (λ (o : Option ModuleTree). name_breaks b.all b.first (expanded (called_block dotted (linker dotted ms d) o b.args b.number)) ≡ []) e b.keeps;
    apart = a;
  }

  -- one call further
  pub next_keeps : (x y : Word) (p : Place) (t u : ModuleTree) → Reach ms main x → module_named ms x ≡ Some t → module_named ms y ≡ Some u → IsCallAt ms x y p → ModuleKeeps x t → ModuleKeeps y u
  next_keeps x y p t u r e g c h =
      let same : c.tree ≡ t = same_tree c.tree t (sym c.found ∙ e) in
      let all : SitesKeep dotted (linker dotted ms h.depth) (sites_in c.tree) = subst (λ (q : ModuleTree). SitesKeep dotted (linker dotted ms h.depth) (sites_in q)) (sym same)
      (linked_keeps dotted (linker dotted ms h.depth) t.body h.call h.names h.number h.all h.first (declaring nothing_declared t.params) h.keeps).1 in
      let b : BlockKeeps dotted (linker dotted ms h.depth) c.site.name = every_among (λ (q : Site). BlockKeeps dotted (linker dotted ms h.depth) q.name) (sites_in c.tree) c.site c.among all in
      called_keeps y u h.depth (keep.height x) h.deep (keep.falls x y p r c) g (unrepeated u.params (call_fits ms x y p t u c e g (keep.known x t r e) (keep.fit x t r e)))
      (subst (λ (z : Word). BlockKeeps dotted (linker dotted ms h.depth) z) c.name b)

  pub reach_then : (x y z : Word) (p : Place) → Reach ms x y → IsCallAt ms y z p → Reach ms x z
  reach_then x _ z p (itself _) c = over x z z p c (itself z)
  reach_then x y z p (over _ w _ q d r) c = over x w z q d (reach_then w y z p r c)

  -- and so each module that is reached
  reached_keeps : (x z : Word) → Reach ms x z → Reach ms main x → (t u : ModuleTree) → module_named ms x ≡ Some t → module_named ms z ≡ Some u → ModuleKeeps x t → ModuleKeeps z u
  reached_keeps x _ (itself _) r t u e g h = subst (λ (q : ModuleTree). ModuleKeeps x q) (same_tree t u (sym e ∙ g)) h
  reached_keeps x z (over _ y _ p c s) r t u e g h =
      let f : IsFound ms y = call_found ms x y p t c e (keep.known x t r e) in
      reached_keeps y z s (reach_then main x y p r c) f.tree u f.found g (next_keeps x y p t f.tree r e f.found c h)

  -- from the main module on
  pub all_keep : (first : ModuleTree) → module_named ms main ≡ Some first → ModuleKeeps main first → (x : Word) (t : ModuleTree) → Reach ms main x → module_named ms x ≡ Some t → ModuleKeeps x t
  all_keep first e h x t r g = reached_keeps main x r (itself main) first t e g h
