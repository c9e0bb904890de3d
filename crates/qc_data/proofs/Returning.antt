-- The encoding of a datum whose names are names decodes to the datum.
use Rattle.std.proofs.Common.{◌≡◌, ℕ, List, [], ◌∷◌, map, Bool, true, Some, option_map, IsTrue, refl, sym, ap, subst}
use Rattle.std.proofs.Common.{◌∙◌}
use Rattle.std.specs.Prelude.{◌&&◌}
use Rattle.qc_containers.specs.Name.{is_name}
use Rattle.qc_containers.specs.Rising.{on_value}
use Rattle.qc_data.specs.Encoding.{enc, enc_step}
use Rattle.qc_data.specs.Decoding.{dec, items_of, fields_of, object_of, branded}
use Rattle.qc_data.specs.Facts.{named, named_step, all_true, all_named}
use Rattle.qc_data.specs.declared.data.Datum.{Datum}
use Rattle.qc_data.specs.declared.data.Datum.TheOpen.{Datum-F}
use Rattle.qc_data.specs.declared.data.Datum.TheViews.{roll-Datum}
use Rattle.qc_data.specs.declared.data.Datum.TheFolds.{map-Datum, ind-Datum}
use Rattle.qc_data.specs.declared.data.Datum.TheVariants as D
use Rattle.qc_data.specs.declared.data.Json.{Json}
use Rattle.qc_data.specs.declared.data.Json.TheVariants as J
use Rattle.qc_data.proofs.DecodingLaws.{dec-Null, dec-Bool, dec-Int, dec-Text, dec-Array, dec-Object, plain_is}
use Rattle.qc_data.proofs.DecodingLaws.{name_of-Text}
use Rattle.qc_data.proofs.Encoded.{enc-roll}
use Rattle.qc_data.proofs.FactLaws.{named-roll}
use Rattle.qc_containers.proofs.Truth.{and_parts}

abbrev Kept : Datum → Type 0
Kept d = IsTrue (named d) → dec (enc d) ≡ Some d

abbrev Sure : Type 0
Sure = (d : Datum) × Kept d

items_kept : (ws : List Sure) → all_true (map named (map (λ e. e.0) ws)) ≡ true
    → items_of (map dec (map enc (map (λ e. e.0) ws))) ≡ Some (map (λ e. e.0) ws)
items_kept [] h = refl
items_kept (w ∷ ws) h =
    let p = and_parts (named w.0) (all_true (map named (map (λ e. e.0) ws))) h in
    rw (w.1 p.0, items_kept ws p.1) refl

fields_kept : (ws : List (List ℕ × Sure)) → all_named (map (on_value named) (map (on_value (λ e. e.0)) ws)) ≡ true
    → fields_of (map (on_value dec) (map (on_value enc) (map (on_value (λ e. e.0)) ws)))
    ≡ Some (map (on_value (λ e. e.0)) ws)
fields_kept [] h = refl
fields_kept (w ∷ ws) h =
    let p = and_parts (is_name w.0) (named w.1.0
    && all_named (map (on_value named) (map (on_value (λ e. e.0)) ws))) h in
    let q = and_parts (named w.1.0) (all_named (map (on_value named) (map (on_value (λ e. e.0)) ws))) p.1 in
    rw (p.0, w.1.1 q.0, fields_kept ws q.1) refl

record_kept : (ws : List (List ℕ × Sure)) → all_named (map (on_value named) (map (on_value (λ e. e.0)) ws)) ≡ true
    → object_of (map (on_value dec) (map (on_value enc) (map (on_value (λ e. e.0)) ws)))
    ≡ Some (D.Rec (map (on_value (λ e. e.0)) ws))
record_kept [] h = refl
record_kept (w ∷ ws) h =
    let p = and_parts (is_name w.0) (named w.1.0
    && all_named (map (on_value named) (map (on_value (λ e. e.0)) ws))) h in
    plain_is _ w.0 (dec (enc w.1.0)) p.0 ∙ ap (option_map D.Rec) (fields_kept (w ∷ ws) h)

brand_kept : (n : List ℕ) (w : Sure) → is_name n ≡ true → named w.0 ≡ true
    → branded (dec (J.Text n)) (dec (enc w.0)) ≡ Some (D.Brand n w.0)
brand_kept n w h k = rw (dec-Text n, name_of-Text n h, w.1 k) refl

layer_kept : (w : Datum-F Sure) → named_step (map-Datum Datum Bool named (map-Datum Sure Datum (λ e. e.0) w)) ≡ true
    → dec (enc_step (map-Datum Datum Json enc (map-Datum Sure Datum (λ e. e.0) w)))
    ≡ Some (roll-Datum (map-Datum Sure Datum (λ e. e.0) w))
layer_kept Datum-F.Unit h = dec-Null ∙ ap Some (sym D.rolls-Unit)
layer_kept (Datum-F.Bool b) h = dec-Bool b ∙ ap Some (sym (D.rolls-Bool b))
layer_kept (Datum-F.Int n) h = dec-Int n ∙ ap Some (sym (D.rolls-Int n))
layer_kept (Datum-F.Text s) h = dec-Text s ∙ ap Some (sym (D.rolls-Text s))
layer_kept (Datum-F.Coll ws) h = dec-Array _ ∙ ap (option_map D.Coll) (items_kept ws h) ∙ ap Some (sym (D.rolls-Coll _))
layer_kept (Datum-F.Rec ws) h = dec-Object _ ∙ record_kept ws h ∙ ap Some (sym (D.rolls-Rec _))
layer_kept (Datum-F.Left w) h = dec-Object _ ∙ ap (option_map D.Left) (w.1 h) ∙ ap Some (sym (D.rolls-Left w.0))
layer_kept (Datum-F.Right w) h = dec-Object _ ∙ ap (option_map D.Right) (w.1 h) ∙ ap Some (sym (D.rolls-Right w.0))
layer_kept (Datum-F.Brand n w) h =
    let p = and_parts (is_name n) (named w.0) h in
    dec-Object _ ∙ brand_kept n w p.0 p.1 ∙ ap Some (sym (D.rolls-Brand n w.0))

kept-step : (x : Datum-F Datum) (w : Datum-F Sure) → map-Datum Sure Datum (λ e. e.0) w ≡ x → Kept (roll-Datum x)
kept-step x w is h =
    subst (λ y. named_step (map-Datum Datum Bool named y) ≡ true
    → dec (enc_step (map-Datum Datum Json enc y)) ≡ Some (roll-Datum y)
    → dec (enc (roll-Datum y)) ≡ Some (roll-Datum y)) is
    (λ a b. ap dec (enc-roll (map-Datum Sure Datum (λ e. e.0) w)) ∙ b) (sym (named-roll x) ∙ h)
    (subst (λ y. named_step (map-Datum Datum Bool named y) ≡ true
    → dec (enc_step (map-Datum Datum Json enc y)) ≡ Some (roll-Datum y)) is (layer_kept w) (sym (named-roll x) ∙ h))

pub dec-enc : (d : Datum) → IsTrue (named d) → dec (enc d) ≡ Some d
dec-enc = ind-Datum Kept kept-step
