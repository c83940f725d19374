-- What the tokens of a text stand for in the grammar.
use Rattle.std.specs.Prelude.{ℕ, true, false, ◌+◌, ◌*◌, ◌-◌, nat_lt, if◌then◌else◌, List, [], ◌∷◌, length, drop, map, codes}
use Rattle.std.specs.Str.{bytes_eq}
use Rattle.quartz_tree.specs.declared.place.Place.{Place}
use Rattle.quartz_tree.specs.declared.declare.Storage.TheVariants.{Event, Mem}
use Rattle.quartz_tree.specs.declared.expr.Binary.TheVariants.{Iff, Implies, Or, Xor, And, Eq, Ne, Lt, Le, Gt, Ge, Cat, Add, Sub, Mul, Div, Rem}
use Rattle.quartz_lexer.specs.declared.token.TokenKind.{TokenKind}
use Rattle.quartz_lexer.specs.declared.token.TokenKind.TheVariants as kind
use Rattle.quartz_lexer.specs.Lexing.{Lexeme}
use Rattle.quartz_parser.specs.declared.symbol.Mark.TheVariants as m
use Rattle.quartz_parser.specs.declared.symbol.Scalar.TheVariants.{Nat, Int, Bv}
use Rattle.quartz_parser.specs.declared.symbol.Symbol.{Symbol}
use Rattle.quartz_parser.specs.declared.symbol.Symbol.TheVariants as s
use Rattle.quartz_parser.specs.Tokens.{Token, mark, name, number, bits, truth, storage, sized, infix_sign, preempt, other}

-- what stands beside the text
abbrev pub find : List (List ℕ × Symbol) → List ℕ → Symbol
find [] text = s.Other
find (e ∷ es) text = if bytes_eq e.0 text then e.1 else find es text

abbrev pub keywords : List (List ℕ × Symbol)
keywords =
    (codes "module", s.Mark m.Module)
    ∷ (codes "bool", s.Mark m.Bool)
    ∷ (codes "nothing", s.Mark m.Nothing)
    ∷ (codes "pause", s.Mark m.Pause)
    ∷ (codes "halt", s.Mark m.Halt)
    ∷ (codes "await", s.Mark m.Await)
    ∷ (codes "immediate", s.Mark m.Immediate)
    ∷ (codes "weak", s.Mark m.Weak)
    ∷ (codes "when", s.Mark m.When)
    ∷ (codes "emit", s.Mark m.Emit)
    ∷ (codes "next", s.Mark m.Next)
    ∷ (codes "if", s.Mark m.If)
    ∷ (codes "else", s.Mark m.Else)
    ∷ (codes "loop", s.Mark m.Loop)
    ∷ (codes "always", s.Mark m.Always)
    ∷ (codes "while", s.Mark m.While)
    ∷ (codes "do", s.Mark m.Do)
    ∷ (codes "bv2nat", s.Mark m.ToNat)
    ∷ (codes "nat2bv", s.Mark m.ToBv)
    ∷ (codes "true", s.Truth true)
    ∷ (codes "false", s.Truth false)
    ∷ (codes "event", s.Storage Event)
    ∷ (codes "mem", s.Storage Mem)
    ∷ (codes "nat", s.Scalar Nat)
    ∷ (codes "int", s.Scalar Int)
    ∷ (codes "bv", s.Scalar Bv)
    ∷ (codes "abort", s.Preempt true)
    ∷ (codes "suspend", s.Preempt false) ∷ []

abbrev pub signs : List (List ℕ × Symbol)
signs =
    (codes "(", s.Mark m.Open)
    ∷ (codes ")", s.Mark m.Close)
    ∷ (codes "{", s.Mark m.OpenBrace)
    ∷ (codes "}", s.Mark m.CloseBrace)
    ∷ (codes "[", s.Mark m.OpenBracket)
    ∷ (codes "]", s.Mark m.CloseBracket)
    ∷ (codes ",", s.Mark m.Comma)
    ∷ (codes ";", s.Mark m.Semicolon)
    ∷ (codes ":", s.Mark m.Colon)
    ∷ (codes "?", s.Mark m.Question)
    ∷ (codes "!", s.Mark m.Bang)
    ∷ (codes "=", s.Mark m.Equals)
    ∷ (codes "||", s.Mark m.Bars)
    ∷ (codes "<->", s.Infix Iff)
    ∷ (codes "->", s.Infix Implies)
    ∷ (codes "|", s.Infix Or)
    ∷ (codes "^", s.Infix Xor)
    ∷ (codes "&", s.Infix And)
    ∷ (codes "==", s.Infix Eq)
    ∷ (codes "!=", s.Infix Ne)
    ∷ (codes "<", s.Infix Lt)
    ∷ (codes "<=", s.Infix Le)
    ∷ (codes ">", s.Infix Gt)
    ∷ (codes ">=", s.Infix Ge)
    ∷ (codes "@", s.Infix Cat)
    ∷ (codes "+", s.Infix Add)
    ∷ (codes "-", s.Infix Sub)
    ∷ (codes "*", s.Infix Mul)
    ∷ (codes "/", s.Infix Div)
    ∷ (codes "%", s.Infix Rem) ∷ []

abbrev pub symbol_of : TokenKind → List ℕ → Symbol
symbol_of kind.Name text = s.Name
symbol_of kind.Number text = s.Number
symbol_of kind.Bits text = s.Bits
symbol_of kind.Keyword text = find keywords text
symbol_of kind.Sign text = find signs text

-- the number that digits spell in a base, behind one that is read already
abbrev pub digits_from : (base before : ℕ) → List ℕ → ℕ
digits_from base before [] = before
digits_from base before (c ∷ cs) = digits_from base (before * base + (c - 48)) cs

abbrev pub digits : (base : ℕ) → List ℕ → ℕ
digits base text = digits_from base 0 text

-- bits of more than 32 digits count as 0
abbrev pub bits_value : List ℕ → ℕ
bits_value text = if nat_lt 32 (length text - 2) then 0 else digits 2 (drop 2 text)

abbrev pub token_with : Symbol → List ℕ → Place → Token
token_with (s.Mark k) text p = mark k p
token_with s.Name text p = name text p
token_with s.Number text p = number (digits 10 text) p
token_with s.Bits text p = bits (length text - 2) (bits_value text) p
token_with (s.Truth b) text p = truth b p
token_with (s.Storage x) text p = storage x p
token_with (s.Scalar k) text p = sized k p
token_with (s.Infix op) text p = infix_sign op p
token_with (s.Preempt abort) text p = preempt abort p
token_with s.Other text p = other

-- a token of a text as the grammar sees it
abbrev pub token_of : Lexeme → Token
token_of l = token_with (symbol_of l.kind l.text) l.text l.place

abbrev pub tokens_of : List Lexeme → List Token
tokens_of ls = map token_of ls
