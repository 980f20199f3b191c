-- What a splitter's run keeps, turn after turn.
use Rattle.std.proofs.Common.{◌≡◌, ℕ, ◌+◌, ◌≤◌, false, List, [], ◌∷◌, ◌++◌, length, None, sym, ap, subst, arith}
use Rattle.std.specs.Prelude.{Ok, Err, OnErr, OnOk}
use Rattle.std.specs.declared.result.Result.{Result}
use Rattle.std.proofs.lemmas.List.Elements.{All-nil}
use Rattle.sp_group.specs.declared.step.Entry.{Entry}
use Rattle.sp_group.specs.Steps.{out_count}
use Rattle.sp_core.specs.Running.{Running, begun}
use Rattle.sp_base.specs.Limits.{batch_limit}
use Rattle.sp_hub.specs.State.{Posting, Sitting}
use Rattle.sp_piece.specs.declared.job.Job.{Job}
use Rattle.sp_spread.specs.Journaled.{MakesNoChild, makes_child, readings_entered}
use Rattle.sp_spread.specs.Limiting.{AsksAtMost, NeverMore, asked_by}
use Rattle.sp_splitter.specs.Lending.{longest_lease}
use Rattle.sp_splitter.specs.Stages.{IsSpreading}
use Rattle.sp_split.specs.Serving.{CanTurn, IsServing}
use Rattle.sp_split.specs.Stages.{IsAlone}

pub on_ok : {T E : Type 0} (A B : Type 0) (r : Result T E) → (A → B) → OnOk r A → OnOk r B
on_ok A B (Ok x) f a = f a
on_ok A B (Err e) f a = tt

pub on_any : {T E : Type 0} (B : Type 0) (r : Result T E) → B → OnOk r B
on_any B (Ok x) b = b
on_any B (Err e) b = tt

pub err_any : {T E : Type 0} (B : Type 0) (r : Result T E) → B → OnErr r B
err_any B (Ok x) b = tt
err_any B (Err e) b = b

no_entry : (before after : List Entry) (x : Entry) → [] ≡ before ++ x ∷ after → ⊥
no_entry [] after x is = cc
no_entry (b ∷ bs) after x is = cc

module _ (c : Running) (fresh : c ≡ begun c.plan c.bound) where
  -- before the first step input has not ended
  pub unended_first : c.machine.ended ≡ false
  unended_first = ap (λ (d : Running). d.machine.ended) fresh

  -- there is nothing to spread
  pub spreading_first : (n : ℕ) → IsSpreading n c
  spreading_first n = subst (IsSpreading n) (sym fresh) (record {
    spread = record {
      before_leases = λ before after entry is lease. absurd (no_entry before after entry is);
      behind_leases = λ before after lease entry is leases other. absurd (no_entry before (entry ∷ after) lease is);
    };
    lent = λ ends. absurd (no_entry ends.0 [] ends.1 ends.2);
  })

  -- no ticket is out
  pub few_first : (n : ℕ) → out_count c.machine ≤ n + 1
  few_first n = subst (λ (d : Running). out_count d.machine ≤ n + 1) (sym fresh) (omega arith)

  -- and none was
  pub never_first : (n : ℕ) → NeverMore c.plan c.bound n c.journal
  never_first n =
      subst (λ (d : Running). NeverMore d.plan d.bound n d.journal) (sym fresh) (λ before after entry times is low. absurd (no_entry before after entry is))

  -- there is no lease
  pub asked_first : (most : ℕ) → AsksAtMost most c.journal
  asked_first most = subst (λ (d : Running). AsksAtMost most d.journal) (sym fresh) (All-nil (λ (e : Entry). asked_by e.step ≤ most))

  -- and no reading
  pub read_first : (calls : ℕ) → readings_entered c.journal ≤ calls
  read_first calls = subst (λ (d : Running). readings_entered d.journal ≤ calls) (sym fresh) (omega arith)

  -- a splitter may take its first turn
  pub serving_first : (n batch : ℕ) (kept : List Job) (by : Posting) (seat : Sitting) → CanTurn n batch kept c.machine.next_ticket by → seat.holding ≡ None → IsServing n batch kept c by seat
  serving_first n batch kept by seat can free = record {
    spreading = spreading_first n;
    never = never_first n;
    asked = asked_first (longest_lease c.plan batch);
    few = few_first n;
    read = read_first (length by.got);
    can = can;
    free = free;
  }

  -- and so may a core that stands alone
  pub alone_first : IsAlone c
  alone_first = record { none_out = ap (λ (d : Running). d.machine.tickets) fresh; alone = subst (λ (d : Running). MakesNoChild d.journal) (sym fresh) (All-nil (λ (e : Entry). makes_child e.step ≡ false)); asked = asked_first batch_limit }

-- with another seat that holds nothing
pub serving_seat : (n batch : ℕ) (kept : List Job) (c : Running) (by : Posting) (seat other : Sitting) → other.holding ≡ None → IsServing n batch kept c by seat → IsServing n batch kept c by other
serving_seat n batch kept c by seat other free is = record { spreading = is.spreading; never = is.never; asked = is.asked; few = is.few; read = is.read; can = is.can; free = free }
