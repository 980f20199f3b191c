-- What a legal history says, in words nearer to its subject.
use Rattle.std.proofs.Common.{◌≡◌, ℕ, ◌+◌, List, [], ◌∷◌, ◌++◌, length, take, Some, sym, ap, ◌∙◌, subst, append_assoc, arith}
use Rattle.std.specs.Prelude.{slice_get}
use Rattle.std.proofs.lemmas.List.{append-nil, length-append}
use Rattle.std.proofs.lemmas.Option.{slice_get-get_or}
use Rattle.std.proofs.Math.Seq.{take-append-add, get_or-append_seam}
use mathlib.Core.List.{IsPrefix}
use Rattle.sp_hub.specs.declared.entry.HubEntry.{HubEntry}
use Rattle.sp_hub.specs.declared.entry.HubEntry.TheVariants.{Take}
use Rattle.sp_hub.specs.History.{post_of, take_of, posted, taken, IsLegal}
use Rattle.sp_hub.proofs.Histories.{flat_map-push}

prefix_at : (xs ys : List ℕ) (t : ℕ) → IsPrefix (xs ++ t ∷ []) ys → slice_get ys (length xs) ≡ Some t
prefix_at xs ys t pre =
    let all : xs ++ t ∷ pre.0 ≡ ys = sym (append_assoc xs (t ∷ []) pre.0) ∙ pre.1 in
    ap (λ (l : List ℕ). slice_get l (length xs)) (sym all) ∙ slice_get-get_or (xs ++ t ∷ pre.0) (length xs) t (omega (arith, length-append xs (t ∷ pre.0))) ∙ ap (λ (n : ℕ). Some n) (get_or-append_seam xs t pre.0 t)

upto : (before after : List HubEntry) (e : HubEntry) → take (length before + 1) (before ++ e ∷ after) ≡ before ++ e ∷ []
upto before after e = take-append-add before (e ∷ after) 1

-- the n-th Take stands after the n-th Post, and has its ticket
pub nth_take : (entries before after : List HubEntry) (seat ticket : ℕ) → IsLegal entries → entries ≡ before ++ Take seat ticket ∷ after → slice_get (posted before) (length (taken before)) ≡ Some ticket
nth_take entries before after seat ticket legal at =
    let whole = ap (take (length before + 1)) at ∙ upto before after (Take seat ticket) in
    let pre : IsPrefix (taken (before ++ Take seat ticket ∷ [])) (posted (before ++ Take seat ticket ∷ [])) = subst (λ (l : List HubEntry). IsPrefix (taken l) (posted l)) whole (legal.takes (length before + 1)) in
    let pre' : IsPrefix (taken before ++ ticket ∷ []) (posted before) = subst (λ (p : List ℕ × List ℕ). IsPrefix p.0 p.1) (λ i. (flat_map-push take_of before (Take seat ticket) i, (flat_map-push post_of before (Take seat ticket) ∙ append-nil (posted before)) i)) pre in
    prefix_at (taken before) (posted before) ticket pre'
