-- Products of integers: with sums, with what is turned round, and as they group.
use Rattle.std.proofs.Common.{◌≡◌, ℕ, ℤ, ◌+ℤ◌, ◌*ℤ◌, pos, negsuc, neg_ℤ, ap, sym, ◌∙◌, zero, suc}
use Rattle.std.proofs.Math.IntN.{suc_ℤ-*ℤ, zero-*ℤ, *ℤ-zero, *ℤ_comm, *ℤ-negsuc, *ℤ-one, one, +ℤ_assoc, +ℤ_comm, neg_ℤ-+ℤ, neg_ℤ-neg_ℤ, +ℤ_idl}

pub times_neg : (a b : ℤ) → a *ℤ neg_ℤ b ≡ neg_ℤ (a *ℤ b)
times_neg a (pos zero) = *ℤ-zero a ∙ ap neg_ℤ (sym (*ℤ-zero a))
times_neg a (pos (suc n)) = *ℤ-negsuc a n
times_neg a (negsuc n) = sym (neg_ℤ-neg_ℤ (a *ℤ pos (suc n))) ∙ ap neg_ℤ (sym (*ℤ-negsuc a n))

neg_times : (a b : ℤ) → neg_ℤ a *ℤ b ≡ neg_ℤ (a *ℤ b)
neg_times a b = *ℤ_comm (neg_ℤ a) b ∙ times_neg b a ∙ ap neg_ℤ (*ℤ_comm b a)

-- four numbers, summed in another order
regroup : (a b c d : ℤ) → (a +ℤ b) +ℤ (c +ℤ d) ≡ (a +ℤ c) +ℤ (b +ℤ d)
regroup a b c d =
    +ℤ_assoc a b (c +ℤ d) ∙ ap (λ x. a +ℤ x) (sym (+ℤ_assoc b c d) ∙ ap (λ x. x +ℤ d) (+ℤ_comm b c) ∙ +ℤ_assoc c b d) ∙ sym (+ℤ_assoc a c (b +ℤ d))

plain_sum : (n : ℕ) (b c : ℤ) → pos n *ℤ (b +ℤ c) ≡ pos n *ℤ b +ℤ pos n *ℤ c
plain_sum zero b c = zero-*ℤ (b +ℤ c) ∙ sym (+ℤ_idl (pos zero)) ∙ sym (λ i. zero-*ℤ b i +ℤ zero-*ℤ c i)
plain_sum (suc n) b c =
    suc_ℤ-*ℤ (pos n) (b +ℤ c) ∙ ap (λ x. x +ℤ (b +ℤ c)) (plain_sum n b c) ∙ regroup (pos n *ℤ b) (pos n *ℤ c) b c ∙
    sym (λ i. suc_ℤ-*ℤ (pos n) b i +ℤ suc_ℤ-*ℤ (pos n) c i)

pub times_sum : (a b c : ℤ) → a *ℤ (b +ℤ c) ≡ a *ℤ b +ℤ a *ℤ c
times_sum (pos n) b c = plain_sum n b c
times_sum (negsuc n) b c =
    neg_times (pos (suc n)) (b +ℤ c) ∙ ap neg_ℤ (plain_sum (suc n) b c) ∙ neg_ℤ-+ℤ (pos (suc n) *ℤ b) (pos (suc n) *ℤ c) ∙
    sym (λ i. neg_times (pos (suc n)) b i +ℤ neg_times (pos (suc n)) c i)

sum_times : (a b c : ℤ) → (a +ℤ b) *ℤ c ≡ a *ℤ c +ℤ b *ℤ c
sum_times a b c = *ℤ_comm (a +ℤ b) c ∙ times_sum c a b ∙ (λ i. *ℤ_comm c a i +ℤ *ℤ_comm c b i)

plain_times : (n : ℕ) (b c : ℤ) → (pos n *ℤ b) *ℤ c ≡ pos n *ℤ (b *ℤ c)
plain_times zero b c = ap (λ x. x *ℤ c) (zero-*ℤ b) ∙ zero-*ℤ c ∙ sym (zero-*ℤ (b *ℤ c))
plain_times (suc n) b c =
    ap (λ x. x *ℤ c) (suc_ℤ-*ℤ (pos n) b) ∙ sum_times (pos n *ℤ b) b c ∙ ap (λ x. x +ℤ b *ℤ c) (plain_times n b c) ∙ sym (suc_ℤ-*ℤ (pos n) (b *ℤ c))

pub times_times : (a b c : ℤ) → (a *ℤ b) *ℤ c ≡ a *ℤ (b *ℤ c)
times_times (pos n) b c = plain_times n b c
times_times (negsuc n) b c =
    ap (λ x. x *ℤ c) (neg_times (pos (suc n)) b) ∙ neg_times (pos (suc n) *ℤ b) c ∙ ap neg_ℤ (plain_times (suc n) b c) ∙ sym (neg_times (pos (suc n)) (b *ℤ c))

times_one : (a : ℤ) → a *ℤ pos 1 ≡ a
unfolding one
times_one a = *ℤ-one a

-- what is turned round is the product with -1
pub times_minus_one : (a : ℤ) → a *ℤ negsuc 0 ≡ neg_ℤ a
times_minus_one a = times_neg a (pos 1) ∙ ap neg_ℤ (times_one a)
