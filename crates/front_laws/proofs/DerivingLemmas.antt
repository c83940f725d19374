-- The reader gets through the tokens, and is over or not where they end, or it stops at one of them.
use Rattle.std.proofs.Common.{◌≡◌, ◌⊎◌, List, [], ◌∷◌, ◌++◌, Option, Some, None, refl, ap, inl, inr, ⊎_elim}
use Rattle.quartz_tree.specs.declared.place.Place.{Place}
use Rattle.quartz_lexer.specs.Lexing.{Lexeme}
use Rattle.quartz_parser.specs.Machine.{State, step, run, ended, text_start}
use Rattle.quartz_parser.specs.Parsing.{Breaks, HasText}
use Rattle.quartz_parser.specs.Symbols.{token_of, tokens_of}
use Rattle.quartz_parser.proofs.Agreement.{reads_texts}

record Goes (s : State) (ls : List Lexeme) : Type 0 where
  pub state : State
  pub runs : run s (tokens_of ls) ≡ Some state

record Stops (s : State) (ls : List Lexeme) : Type 0 where
  pub front : List Lexeme
  pub lexeme : Lexeme
  pub back : List Lexeme
  pub state : State
  pub whole : ls ≡ front ++ lexeme ∷ back
  pub runs : run s (tokens_of front) ≡ Some state
  pub stuck : step state (token_of lexeme) ≡ None

some_or_none : {A : Type 0} (o : Option A) → ((x : A) × (o ≡ Some x)) ⊎ (o ≡ None)
some_or_none None = inr refl
some_or_none (Some x) = inl (x, refl)

split : (s : State) (ls : List Lexeme) → Goes s ls ⊎ Stops s ls
split s [] = inl (record { state = s; runs = refl })
split s (l ∷ ls) = ⊎_elim
    (λ (next, e). ⊎_elim
    (λ g. inl (record { state = g.state; runs = rw e g.runs }))
    (λ t. inr (record {
      front = l ∷ t.front;
      lexeme = t.lexeme;
      back = t.back;
      state = t.state;
      whole = ap (λ more. l ∷ more) t.whole;
      runs = rw e t.runs;
      stuck = t.stuck;
    }))
    (split next ls))
    (λ e. inr (record { front = []; lexeme = l; back = ls; state = s; whole = refl; runs = refl; stuck = e }))
    (some_or_none (step s (token_of l)))

pub tokens_derive_or_break : (ls : List Lexeme) (end : Place) → HasText ls ⊎ ((p : Place) × Breaks HasText ls end p)
tokens_derive_or_break ls end =
    let reads = reads_texts ls in
    ⊎_elim
    (λ g. ⊎_elim
    (λ (ns, e). inl (ns, reads.derived g.state ns g.runs e))
    (λ e. inr (end, reads.broken_end end g.state g.runs e))
    (some_or_none (ended g.state)))
    (λ t. inr (t.lexeme.place, reads.broken_at t.front t.back t.lexeme end t.state t.whole t.runs t.stuck))
    (split text_start ls)
