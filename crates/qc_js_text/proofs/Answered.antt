-- What the lexemes and the table answer is right for the text.
use Rattle.std.proofs.Common.{◌≡◌, ℕ, ◌≤◌, ◌<◌, ◌^◌, List, length, true, false, sym, ap, ◌∙◌, subst, arith}
use Rattle.std.specs.Prelude.{Err}
use Rattle.std.proofs.lemmas.List.{length-map}
use Rattle.qc_grammar.specs.Parsing as parsing
use Rattle.qc_grammar.specs.declared.fault.SyntaxFault.{SyntaxFault}
use Rattle.qc_grammar.specs.declared.fault.SyntaxFault.TheVariants.{BadSyntax}
use Rattle.qc_js.specs.declared.token.Token.{Token}
use Rattle.qc_js.specs.declared.tree.Program.{Program}
use Rattle.qc_js.specs.Held.{holds_program}
use Rattle.qc_js.specs.Spelling.{Scans, Spells}
use Rattle.qc_js.specs.Tokens.{program_tokens}
use Rattle.qc_js.specs.WellFormed.{well_formed}
use Rattle.qc_js_lex.specs.declared.lexeme.Lexeme.{Lexeme}
use Rattle.qc_js_lex.specs.declared.scanning.Scan.{Scan}
use Rattle.qc_js_lex.specs.declared.scanning.Scan.TheVariants.{BadScan}
use Rattle.qc_js_lex.specs.Lexemes.{lexeme_of}
use Rattle.qc_js_lex.specs.Scanned as scans
use Rattle.qc_js_lex.specs.Scanned.{IsScan, IsBad}
use Rattle.qc_js_lex.proofs.Answered.{few, within, scanned_as}
use Rattle.qc_js_text.specs.Reading.{depth, most_bytes, most_open, IsRead, IsBadScan, IsBadJs}
use Rattle.qc_js_text.specs.inner.Depths.{is_shallow}
use Rattle.qc_js_text.specs.inner.Trees.{Reads, program_lexemes}
use Rattle.qc_js_text.proofs.Pairs.{program_pair, lexemes_of, tokens_of}
use Rattle.qc_js_text.proofs.Shallows.{to_depth, from_depth}
use Rattle.qc_js_text.proofs.Told.{program_told}

-- the lexemes of a text are few
pub few_lexemes : (text : List ℕ) (ls : List Lexeme) → IsScan text ls → length text ≤ most_bytes → length ls < 2 ^ 32
few_lexemes text ls e l =
    let h = few e.scanned in
    let k : length ls ≡ length e.tokens = ap length (sym (e.only e.tokens e.scanned)) ∙ length-map e.tokens lexeme_of in
    omega (arith, h, k, l)

-- the lexemes of a program that the text spells
pub spelled_reads : (text : List ℕ) (ls : List Lexeme) (p : Program) → IsScan text ls → Spells text p → Reads ls p
spelled_reads text ls p e s = record {
  told = program_told p s.program;
  lexemes = sym (e.only (program_tokens p) s.tokens) ∙ lexemes_of (program_pair p s.held);
}

-- ---- answers

pub bad_scan : (text : List ℕ) (at : ℕ) → IsBad text at → length text ≤ most_bytes → IsBadScan text at
bad_scan text at e l = record { short = l; stops = e.stops; no_scan = e.no_scan }

pub bad_place : (text : List ℕ) (at : ℕ) → IsBad text at → length text ≤ most_bytes → at < 2 ^ 32
bad_place text at e l = let h = within e.stops in omega (arith, h, l)

pub bad_parse : (text : List ℕ) (ls : List Lexeme) (at : ℕ) → IsScan text ls → length text ≤ most_bytes
    → parsing.Refused Reads ls at → IsBadJs text
bad_parse text ls at e l r =
    record {
      short = l;
      tokens = e.tokens;
      scanned = e.scanned;
      bad = λ d p s. r.none p (spelled_reads text ls p e s);
    }

pub bad_syntax : (text : List ℕ) (ls : List Lexeme) (f : SyntaxFault) (at : ℕ) → IsScan text ls
    → length text ≤ most_bytes → f ≡ BadSyntax at → parsing.Parses Reads ls (Err f) → IsBadJs text
bad_syntax text ls f at e l is p =
    bad_parse text ls at e l (subst (λ z. parsing.Parses Reads ls (Err z)) is p)

pub bad_answer : (text : List ℕ) (s : Scan) (at : ℕ) → s ≡ BadScan at → scans.Answers text s
    → length text ≤ most_bytes → IsBadScan text at
bad_answer text s at is a l = bad_scan text at (subst (λ z. scans.Answers text z) is a) l

pub bad_depth : (text : List ℕ) (ls : List Lexeme) → IsScan text ls → length text ≤ most_bytes
    → is_shallow most_open ls ≡ false → IsBadJs text
bad_depth text ls e l f =
    record {
      short = l;
      tokens = e.tokens;
      scanned = e.scanned;
      bad = λ d p s.
          (let r = spelled_reads text ls p e s in
          let q = program_pair p s.held in
          let same : e.tokens ≡ program_tokens p = tokens_of q e.tokens (e.only e.tokens e.scanned ∙ r.lexemes) in
          let h : is_shallow most_open (program_lexemes p) ≡ true =
          from_depth most_open q 0 (subst (λ z. depth z ≤ most_open) same d) in
          let o : true ≡ false = sym h ∙ ap (is_shallow most_open) (sym r.lexemes) ∙ f in absurd cc);
    }

pub bad_rules : (text : List ℕ) (ls : List Lexeme) (p : Program) → IsScan text ls → length text ≤ most_bytes
    → parsing.Spells Reads ls p → well_formed p ≡ false → IsBadJs text
bad_rules text ls p e l r f =
    record {
      short = l;
      tokens = e.tokens;
      scanned = e.scanned;
      bad = λ d q s.
          (let same = r.only q (spelled_reads text ls q e s) in
          let o : true ≡ false = sym s.program ∙ ap well_formed same ∙ f in absurd cc);
    }

pub is_read : (text : List ℕ) (ls : List Lexeme) (p : Program) → IsScan text ls → length text ≤ most_bytes
    → is_shallow most_open ls ≡ true → parsing.Spells Reads ls p → well_formed p ≡ true → holds_program p ≡ true
    → IsRead text p
is_read text ls p e l f r w h =
    let q = program_pair p h in
    let same : (us : List Token) → Scans text us → us ≡ program_tokens p =
    λ us s. tokens_of q us (e.only us s ∙ r.spells.lexemes) in
    let d : depth (program_tokens p) ≤ most_open =
    to_depth most_open q 0 (omega arith) (ap (is_shallow most_open) (sym r.spells.lexemes) ∙ f) in
    record {
      spelled = record {
        held = h;
        program = w;
        tokens = subst (λ z. Scans text z) (same e.tokens e.scanned) e.scanned;
      };
      only = λ other s. r.only other (spelled_reads text ls other e s);
      short = l;
      shallow = λ us s. subst (λ z. depth z ≤ most_open) (sym (same us s)) d;
    }

-- the tokens of a text that spells a program are the program's
pub same_tokens : {text : List ℕ} (p : Program) → Spells text p → (us : List Token) → Scans text us
    → program_tokens p ≡ us
same_tokens p s us d =
    let q = program_pair p s.held in
    sym (tokens_of q us ((scanned_as s.tokens).only us d ∙ lexemes_of q))
