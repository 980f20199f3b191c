use Rattle.std.proofs.Common.{◌∙◌, ap, sym, map, take, List, ℕ, Vec, Global}
use Rattle.std.proofs.lemmas.List.{take-map}
use Rattle.sp_rows.proofs.texts.Texts.truncate.Goals as goal

-- the bytes of a text in the set
abbrev bytes_of : Vec ℕ Global → List ℕ
bytes_of text = text.items

pub returns : goal.returns
returns c =
    ap (λ (keys : List (Vec ℕ Global)). map bytes_of keys) c.truncate.ensures.keys ∙ sym (take-map bytes_of c.args.number c.self.inside.set.keys) ∙ ap (λ (texts : List (List ℕ)). take c.args.number texts) c.self.view_is
