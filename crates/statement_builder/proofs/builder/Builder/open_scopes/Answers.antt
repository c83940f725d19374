use Rattle.std.proofs.Common.{◌≡◌, ◌∙◌, ℕ, ◌+◌, ap, refl, rules, subst, sym}
use Rattle.quartz_tree.specs.declared.stmt.Stmt.{Stmt}
use Rattle.quartz_tree.specs.Kernel.{Kernel, kernel, local}
use Rattle.quartz_expr.specs.Terms.{term_of}
use Rattle.quartz_names.specs.Unscoped.{unscoped}
use Rattle.quartz_names.proofs.KernelLemmas.{kernel_local}
use Rattle.statement_cells.specs.Sound.{IsSound}
use Rattle.statement_builder.proofs.EndLemmas.{opens_more, opens_none}
use Rattle.statement_builder.proofs.builder.Builder.open_scopes.Goals as goal

pub loop-inner-init : goal.loop-inner-init
loop-inner-init c = record {
  over = c.requires.over;
  sound = c.requires.sound;
  unscoped_is = refl;
  opens = opens_none c.args.vars.now c.args.self.now c.args.stored c.args.labels c.args.first c.args.first (term_of (kernel c.args.stmt.now)) (term_of (kernel c.args.stmt.now)) c.new-scopes.result.items c.new-scopes.ensures.items refl refl;
}

pub loop-inner-preserved : goal.loop-inner-preserved
loop-inner-preserved c =
    let body : c.deref-inner.result.now ≡ c.in-Local.body.value = search rules in
    let is : kernel c.loop-inner.inner.now ≡ local c.in-Local.var (kernel c.deref-inner.result.now) =
    ap kernel c.in-Local.is ∙ (kernel_local c.in-Local.var c.in-Local.body ∙ ap (λ (s : Stmt). local c.in-Local.var (kernel s)) (sym body)) in
    let sound = subst (λ (k : Kernel). IsSound c.args.vars.now (term_of k)) is c.loop-inner.invariant.sound in
    record {
      over = c.in_ok-scope.ensures.over c.args.vars.now c.loop-inner.invariant.over;
      sound = sound.3;
      unscoped_is = sym (ap unscoped is) ∙ c.loop-inner.invariant.unscoped_is;
      opens = opens_more c.args.vars.now c.args.self.now c.loop-inner.self c.open_scope.new.self c.args.stored c.args.labels c.args.first c.loop-inner.register c.in_ok-register.register c.in-Local.var
          (term_of (kernel c.args.stmt.now)) (term_of (kernel c.loop-inner.inner.now)) (term_of (kernel c.deref-inner.result.now)) c.loop-inner.scopes.items c.push.new.self.items c.in_ok-scope.scope
          c.loop-inner.invariant.opens (ap term_of is) c.in_ok-scope.ensures (search rules) (c.in_ok-register.ensures ∙ ap (λ (n : ℕ). c.loop-inner.register + n) c.in_ok-scope_registers.ensures);
    }
