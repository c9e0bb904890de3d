-- The types that calls answer are sound.
use Rattle.std.proofs.Common.{◌≡◌, Option, IsTrue, sym, subst}
use Rattle.std.specs.Prelude.{Result, Ok, Err, IfOk}
use Rattle.qc_data.specs.Outcome.{any_size}
use Rattle.qc_types.specs.declared.ty.Ty.{Ty}
use Rattle.qc_types.specs.Classes.{Defs}
use Rattle.qc_types.specs.Schemas.{good_classes}
use Rattle.qc_ops.specs.declared.op.Unary.{Unary}
use Rattle.qc_ops.specs.declared.op.Binary.{Binary}
use Rattle.qc_ops.specs.Operators.{unary, binary}
use Rattle.qc_ops.proofs.OperatorLaws.{agrees_unary, agrees_binary}
use Rattle.qc_typing.specs.Tables.{unary_type, binary_type}
use Rattle.qc_typing.specs.Typed.{IsSound1, IsSound2}
use Rattle.qc_typing.proofs.Outcomes.{typed_all}
use Rattle.qc_typing.proofs.UnarySound.{unary_sound}
use Rattle.qc_typing.proofs.BinarySound.{binary_sound}

module _ (c : Defs) (g : IsTrue (good_classes c)) where
  pub sound_unary : (op : Unary) (a : Ty) → IsSound1 c op a (unary_type c op a)
  sound_unary op a d h =
      typed_all c (unary_type c op a) (λ m. unary m c op d) (unary_sound c g any_size op a d h)
      (λ low high. agrees_unary low high c op d)

  pub sound_binary : (op : Binary) (a b : Ty) → IsSound2 c op a b (binary_type c op a b)
  sound_binary op a b d e h k =
      typed_all c (binary_type c op a b) (λ m. binary m op d e) (binary_sound c g any_size op a b d e h k)
      (λ low high. agrees_binary low high op d e)

  pub answered_unary : {E : Type 0} (op : Unary) (a : Ty) (r : Result (Option Ty) E)
      → IfOk r (λ t. t ≡ unary_type c op a) → IfOk r (IsSound1 c op a)
  answered_unary op a (Ok t) e = subst (IsSound1 c op a) (sym e) (sound_unary op a)
  answered_unary op a (Err x) e = tt

  pub answered_binary : {E : Type 0} (op : Binary) (a b : Ty) (r : Result (Option Ty) E)
      → IfOk r (λ t. t ≡ binary_type c op a b) → IfOk r (IsSound2 c op a b)
  answered_binary op a b (Ok t) e = subst (IsSound2 c op a b) (sym e) (sound_binary op a b)
  answered_binary op a b (Err x) e = tt
