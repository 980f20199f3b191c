-- A text is at most one list of items.
use Rattle.std.proofs.Common.{◌≡◌, ℕ, List, [], refl, subst}
use Rattle.sp_query.specs.declared.mark.Mark.TheVariants as m
use Rattle.sp_query.specs.Phrase.{One, Both}
use Rattle.sp_query.specs.Grammar.{kernel, mark, name, span, After, Name, Sum}
use Rattle.sp_parse.specs.Follow.{after_sum}
use Rattle.sp_parse.specs.Reads.{never, reads_as}
use Rattle.sp_parse.proofs.Agree.{Agree, Parts, one_agrees, both_agree, built_agree}
use Rattle.sp_parse.proofs.Unique.{begun, token_starts, after_agree, list_agree, sum_agrees}
use Rattle.sp_parse.proofs.UniqueClauses.{tokens_same}
use Rattle.sp_returns.specs.declared.item.Return.{Return}
use Rattle.sp_returns.specs.Follow.{after_items}
use Rattle.sp_returns.specs.Grammar.{item, Item, DerivesReturns, IsReturnList}
use Rattle.sp_returns.proofs.Phrases.{as_out}

name_agrees : Agree Name Name never
name_agrees = built_agree (λ tokens x. record { text = x; span = span tokens }) (One (kernel name)) (One (kernel name)) never (one_agrees (kernel name))

-- AS parts the name from the sum
target_parts : Parts (After m.As Name) after_sum never
target_parts = begun (reads_as (kernel (mark m.As))) after_sum never (After m.As Name) (token_starts (kernel (mark m.As)) Name (λ tokens p. p.1)) (λ t. as_out t.kernel)

item_agrees : (n k : ℕ) → Agree (Item n) (Item k) never
item_agrees n k = built_agree item (Both (Sum n) (After m.As Name)) (Both (Sum k) (After m.As Name)) never
    (both_agree (Sum n) (Sum k) (After m.As Name) (After m.As Name) after_sum never target_parts target_parts (sum_agrees n k) (after_agree m.As Name Name never name_agrees))

items_agree : (n k : ℕ) → Agree (DerivesReturns n) (DerivesReturns k) after_items
items_agree n k = list_agree (Item n) (Item k) never (λ t h. refl) (item_agrees n k)

-- A text is at most one list of items.
pub one_list : (text : List ℕ) (returns other : List Return) → IsReturnList text returns → IsReturnList text other → returns ≡ other
one_list text returns other x y =
    let same = tokens_same 0 text x.tokens y.tokens x.of_text y.of_text in
    (items_agree 64 64 y.tokens [] y.tokens [] returns other (subst (λ l. DerivesReturns 64 l returns) same x.derives) y.derives refl refl refl).1
