use Rattle.std.proofs.Common.{◌≡◌, inl, take, subst, ◌∙◌, List, ℕ}
use Rattle.outside.specs.Bytes.{Fetched, Rose}
use Rattle.averest_top.specs.Promise.{OfText}
use Rattle.averest_top.proofs.PromiseLemmas.{fetched_text, any_shelf}
use Rattle.averest_top.proofs.fetching.do_fetched.Goals as goal

pub returns-in-Ok-clause-of_text : goal.returns-in-Ok-clause-of_text
returns-in-Ok-clause-of_text g c = λ text h.
    let fetched : take c.in-Ok.count c.fetch.new.buf ≡ text =
    fetched_text (g.F.Shelf.texts c.args.shelf.now) c.args.name.now text c.fetch.new.buf c.in-Ok.count (c.fetch.auto.buf ∙ c.requires) h
    (subst (λ (named : List ℕ). Fetched (g.F.Shelf.texts c.args.shelf.now) named c.in-Ok.count c.fetch.new.buf) c.text.ensures c.in-Ok.ensures.fetched) in
    any_shelf text c.args.task _ _ _ _ _ _ _ c.do_text.result
    (subst (λ (t : List ℕ). OfText t c.args.task (g.S.Source.left c.args.input.now) (g.S.Source.left c.do_text.new.input) (g.O.Sink.stands c.args.out.now) (g.O.Sink.stands c.do_text.new.out) ⊥
    (Rose (g.S.Source.faults c.args.input.now) (g.S.Source.faults c.do_text.new.input)) (Rose (g.O.Sink.faults c.args.out.now) (g.O.Sink.faults c.do_text.new.out)) c.do_text.result) fetched c.do_text.ensures.of_text)

pub returns-in-Err-clause-possible : goal.returns-in-Err-clause-possible
returns-in-Err-clause-possible g c = inl tt
