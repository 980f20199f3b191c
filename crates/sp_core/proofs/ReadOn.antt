-- A piece that is read on: its ticket is read on as the machine's, and it is refused and answers the same.
use Rattle.std.proofs.Common.{◌≡◌, ℕ, ◌+◌, ◌<◌, ◌≤◌, Bool, true, false, not, cond, ◌&&◌, ◌||◌, length, None, Some, nat_le, nat_lt, refl, sym, ap, ◌∙◌, arith}
use Rattle.std.proofs.lemmas.Bool.Decides.{nat_tests}
use Rattle.sp_piece.specs.Pieced.{Pieced, after_step, answer}
use Rattle.sp_piece.specs.declared.stepped.Stepped.{Stepped}
use Rattle.sp_piece.specs.declared.stepped.Stepped.TheVariants as p
use Rattle.sp_group.specs.declared.refusal.Refusal.TheVariants as r
use Rattle.sp_group.specs.Refusing.{event_refusal, refuse_if}
use Rattle.sp_group.specs.Effects.{read_if}
use Rattle.sp_group.specs.Steps.{Answered, event_answer}
use Rattle.sp_group.specs.Steps as steps
use Rattle.sp_core.specs.Settling.{IsWithin}
use Rattle.sp_core.specs.OnBench.{ticket_in}

-- what a step of a piece answers, as the machine's answer
abbrev pub told : Stepped → Answered
told (p.Read number skipped) = steps.Read number skipped
told p.Closed = steps.Closed
told p.Finished = steps.Nothing

-- whether an event is next, or the closing, by whether the piece was given up, an event is left, the closing was read, and was lent
abbrev event_next : Bool → Bool → Bool
event_next short left = not short && left

abbrev closing_next : Bool → Bool → Bool → Bool → Bool
closing_next short left closed closes = not short && not left && not closed && closes

abbrev next : Bool → Bool → Bool → Bool → Stepped → Stepped
next short left closed closes reading = cond (event_next short left) reading (cond (closing_next short left closed closes) p.Closed p.Finished)

-- where there is nothing more to read, all was read, and nothing changes
all_read : (short left closed closes : Bool) (n : ℕ) (b : Bool) → short ≡ false → next short left closed closes (p.Read n b) ≡ p.Finished
    → ((not left && (closed || not closes)) ≡ true) × (event_next short left ≡ false) × (closing_next short left closed closes ≡ false)
all_read true left closed closes n b whole is = absurd (cc)
all_read false true closed closes n b whole is = absurd (cc)
all_read false false true closes n b whole is = (refl, refl, refl)
all_read false false false true n b whole is = absurd (cc)
all_read false false false false n b whole is = (refl, refl, refl)

-- else there is something more to read; and the closing is read as the machine's ticket has it
some_left : (short left closed closes : Bool) (n : ℕ) (b : Bool) → short ≡ false → (next short left closed closes (p.Read n b) ≡ p.Finished → ⊥)
    → ((not left && (closed || not closes)) ≡ false) × (cond (closing_next short left closed closes) true closed ≡ cond (true && not left) true closed)
    × (told (next short left closed closes (p.Read n b)) ≡ cond left (steps.Read n b) steps.Closed)
some_left true left closed closes n b whole more = absurd (cc)
some_left false true closed closes n b whole more = (refl, refl, refl)
some_left false false true closes n b whole more = absurd (more refl)
some_left false false false true n b whole more = (refl, refl, refl)
some_left false false false false n b whole more = absurd (more refl)

none_left : (read count : ℕ) → nat_le count read ≡ not (nat_lt read count)
none_left read count = one (nat_lt read count) refl
  where
    one : (b : Bool) → nat_lt read count ≡ b → nat_le count read ≡ not b
    one true is = grind (arith, nat_tests)
    one false is = grind (arith, nat_tests)

module _ (piece : Pieced) (whole : piece.short ≡ false) where
  whole_is : (b : Bool) → (not (nat_lt piece.read (length piece.job.events)) && (piece.closed || not piece.job.closes)) ≡ b
      → event_refusal piece.job.ticket (Some (ticket_in piece)) ≡ refuse_if b (r.NothingToRead piece.read) None
  whole_is b is =
      ap (λ (none : Bool). refuse_if (none && (piece.closed || not piece.job.closes)) (r.NothingToRead piece.read) None) (none_left piece.read (length piece.job.events))
      ∙ ap (λ (c : Bool). refuse_if c (r.NothingToRead piece.read) None) is

  pub finished_refused : answer piece ≡ p.Finished → event_refusal piece.job.ticket (Some (ticket_in piece)) ≡ Some (r.NothingToRead piece.read)
  finished_refused is =
      let a = all_read piece.short (nat_lt piece.read (length piece.job.events)) piece.closed piece.job.closes _ _ whole is in
      whole_is true a.0

  pub finished_same : answer piece ≡ p.Finished → after_step piece ≡ piece
  finished_same is =
      let a = all_read piece.short (nat_lt piece.read (length piece.job.events)) piece.closed piece.job.closes _ _ whole is in
      ap (λ (b : Bool). record (after_step piece) { read = cond b (piece.read + 1) piece.read }) a.1
      ∙ ap (λ (b : Bool). record piece { closed = cond b true piece.closed }) a.2

  module _ (more : answer piece ≡ p.Finished → ⊥) where
    pub goes : event_refusal piece.job.ticket (Some (ticket_in piece)) ≡ None
    goes =
        let a = some_left piece.short (nat_lt piece.read (length piece.job.events)) piece.closed piece.job.closes _ _ whole more in
        whole_is false a.0

    pub reads_on : ticket_in (after_step piece) ≡ read_if true (ticket_in piece)
    reads_on =
        let a = some_left piece.short (nat_lt piece.read (length piece.job.events)) piece.closed piece.job.closes _ _ whole more in
        ap (λ (b : Bool). record (ticket_in (after_step piece)) { read = cond (not b && nat_lt piece.read (length piece.job.events)) (piece.read + 1) piece.read }) whole
        ∙ ap (λ (b : Bool). record (read_if true (ticket_in piece)) { closing_read = b })
        (a.1 ∙ ap (λ (b : Bool). cond (true && b) true piece.closed) (sym (none_left piece.read (length piece.job.events))))

    pub answers : told (answer piece) ≡ event_answer (Some (ticket_in piece))
    answers = (some_left piece.short (nat_lt piece.read (length piece.job.events)) piece.closed piece.job.closes _ _ whole more).2

-- it stays within what was lent to it
within_on : (short left closed closes : Bool) (read count : ℕ) → nat_lt read count ≡ left → read ≤ count → (closed ≡ true → (closes ≡ true) × (read ≡ count))
    → (cond (event_next short left) (read + 1) read ≤ count)
    × (cond (closing_next short left closed closes) true closed ≡ true → (closes ≡ true) × (cond (event_next short left) (read + 1) read ≡ count))
within_on true left closed closes read count is within last = (within, last)
within_on false true closed closes read count is within last =
    let less : read < count = grind (arith, nat_tests) in
    (omega arith, λ shut. absurd (let at = (last shut).1 in omega arith))
within_on false false true closes read count is within last = (within, last)
within_on false false false true read count is within last = (within, λ shut. (refl, grind (arith, nat_tests)))
within_on false false false false read count is within last = (within, λ shut. absurd (cc))

pub stays_within : (piece : Pieced) → IsWithin piece → IsWithin (after_step piece)
stays_within piece w =
    let a = within_on piece.short (nat_lt piece.read (length piece.job.events)) piece.closed piece.job.closes piece.read (length piece.job.events) refl w.within w.last in
    record { within = a.0; last = a.1 }
