use Rattle.std.proofs.Common.{◌≡◌, ℕ, true, List, Vec, Global, Option, Some, option_map, ap, sym, subst, ◌∙◌}
use Rattle.std.specs.List.{slice_get}
use Rattle.std.specs.Str.{is_utf8}
use Rattle.std.proofs.lemmas.List.Elements.{All-get_or}
use Rattle.std.proofs.lemmas.Option.{slice_get-map, get_or_from_slice_get, slice_get_within}
use Rattle.sp_rows.proofs.Numbered.{stands_there}
use Rattle.sp_rows.proofs.Utf8.{text_read}
use Rattle.sp_rows.proofs.texts.Texts.get.Goals as goal

-- the bytes of a text in the set
abbrev bytes_of : Vec ℕ Global → List ℕ
bytes_of text = text.items

pub returns : goal.returns
returns c =
    let keys = c.self.inside.set.keys in
    let text = c.in_ok-text.text.now in
    let look = c.in_ok-text.ensures.lookup in
    let at : slice_get keys c.args.number ≡ Some text = stands_there keys c.as_slice.result.now c.args.number text c.as_slice.ensures.keys look.3.0 look.1 in
    let here : slice_get c.args.self.now c.args.number ≡ Some (bytes_of text) =
    ap (λ (texts : List (List ℕ)). slice_get texts c.args.number) (sym c.self.view_is) ∙ slice_get-map bytes_of keys c.args.number ∙ ap (λ (found : Option (Vec ℕ Global)). option_map bytes_of found) at in
    let valid : is_utf8 (bytes_of text) ≡ true =
    subst (λ (own : Vec ℕ Global). is_utf8 (bytes_of own) ≡ true) (get_or_from_slice_get keys c.args.number text text at)
    (All-get_or (λ own. is_utf8 (bytes_of own) ≡ true) keys c.args.number text (slice_get_within keys c.args.number text at) c.self.invariant) in
    let same : c.as_slice-2.result.now ≡ bytes_of text = c.as_slice-2.ensures.value in
    text_read _ _ c.as_slice-2.result.now c.from_utf8.result c.ok.result c.ok.ensures.value (ap is_utf8 same ∙ valid) c.from_utf8.ensures.cases ∙ ap Some same ∙ sym here
