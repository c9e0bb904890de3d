-- A front of a front.
use Rattle.std.proofs.Common.{◌≤◌, take, length, ap, sym, ◌∙◌, arith}
use Rattle.std.proofs.lemmas.List.{take-take, length-take, take_all}
use Rattle.qc_js.specs.WellFormed.{Scope}
use Rattle.qc_js.specs.inner.Steps.{IsFront}

shorter : (a b : Scope) → IsFront a b → length a ≤ length b
shorter a b p = omega (arith, length-take (length a) b, ap length p)

pub front_whole : (a : Scope) → IsFront a a
front_whole a = take_all (length a) a (omega arith)

pub front_then : (a b c : Scope) → IsFront a b → IsFront b c → IsFront a c
front_then a b c p q = sym (take-take (length a) (length b) c (shorter a b p)) ∙ ap (take (length a)) q ∙ p
