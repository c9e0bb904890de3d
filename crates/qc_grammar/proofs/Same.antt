-- Two languages with the same words have the same parses.
use Rattle.std.proofs.Common.{◌+◌, List, ◌++◌, take, Ok, Err}
use Rattle.std.specs.Prelude.{Result}
use Rattle.qc_grammar.specs.declared.fault.SyntaxFault.{SyntaxFault}
use Rattle.qc_grammar.specs.declared.fault.SyntaxFault.TheVariants.{BadSyntax, Memory}
use Rattle.qc_grammar.specs.Parsing.{Begins, Parses}

module _ {T A : Type 0} (L M : List T → A → Type 0) (to : (ts : List T) (x : A) → L ts x → M ts x)
    (from : (ts : List T) (x : A) → M ts x → L ts x) where
  begins : (ts : List T) → Begins M ts → Begins L ts
  begins ts b = (b.0, b.1, from (ts ++ b.0) b.1 b.2)

  pub parses : (ts : List T) (r : Result A SyntaxFault) → Parses L ts r → Parses M ts r
  parses ts (Ok x) p = record { spells = to ts x p.spells; only = λ other d. p.only other (from ts other d) }
  parses ts (Err (BadSyntax at)) p = record {
    none = λ tree d. p.none tree (from ts tree d);
    place = record {
      within = p.place.within;
      before = (let b = p.place.before in (b.0, b.1, to (take at ts ++ b.0) b.1 b.2));
      whole = λ b. p.place.whole (begins ts b);
      beyond = λ lt b. p.place.beyond lt (begins (take (at + 1) ts) b);
    };
  }
  parses ts (Err Memory) p = tt
