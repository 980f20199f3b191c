-- What a call of a sink in memory keeps is a front of its piece.
use Rattle.std.proofs.Common.{◌≡◌, ℕ, Bool, true, false, List, [], ◌++◌, take, drop, refl, sym, ◌∙◌, take-append-drop}
use Rattle.std.specs.Prelude.{if◌then◌else◌}
use Rattle.std.proofs.lemmas.List.{append-nil}
use Rattle.sp_io.specs.Outside.{IsPrefix}

-- a sink that keeps a part of its piece, or that keeps nothing, grew by a prefix of it
pub kept_front_is : (ok : Bool) (old new piece part : List ℕ) (kept : ℕ) → part ≡ take kept piece → new ≡ (if ok then old ++ part else old) → (front : List ℕ) × IsPrefix front piece × (new ≡ old ++ front)
kept_front_is true old new piece part kept is grew = (part, (drop kept piece, sym (take-append-drop kept piece) ∙ (λ i. sym is i ++ drop kept piece)), grew)
kept_front_is false old new piece part kept is grew = ([], (piece, refl), grew ∙ sym (append-nil old))
