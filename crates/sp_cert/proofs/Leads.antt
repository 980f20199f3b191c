-- How many of the first items hold, one after another.
use Rattle.std.proofs.Common.{◌≡◌, ℕ, ◌+◌, ◌<◌, List, [], ◌∷◌, ◌++◌, length, get_or, take, sym, ap, ◌∙◌, subst, arith}
use Rattle.std.specs.List.{All}
use Rattle.std.proofs.lemmas.List.{take_more}
use Rattle.std.proofs.lemmas.List.Elements.{All-push}
use Rattle.std.proofs.lemmas.Option.{slice_get_within}
use Rattle.sp_cert.specs.Leading.{IsLeading}

-- one item more
pub lead_more : {X : Type 0} (P : X → Type 0) (items : List X) (i : ℕ) (x : X) → i < length items → x ≡ get_or items i x → All P (take i items) → P x → All P (take (i + 1) items)
lead_more P items i x within is all one =
    subst (All P) (sym (take_more items i x within ∙ ap (λ y. take i items ++ y ∷ []) (sym is))) (All-push P (take i items) x all one)

-- all items
pub lead_all : {X : Type 0} (P : X → Type 0) (items : List X) (i : ℕ) → i ≡ length items → All P (take i items) → IsLeading P items (length items)
lead_all P items i end all = record {
  within = omega arith;
  all = subst (λ n. All P (take n items)) end all;
  stops = λ x at. (let within = slice_get_within items (length items) x at in absurd (omega arith));
}
