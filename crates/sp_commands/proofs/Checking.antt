-- A check as what is promised of it: its texts, and what its entries come to.
use Rattle.std.proofs.Common.{◌⊎◌, ◌≡◌, ◌≢◌, inl, inr, ⊎_elim, ℕ, ◌+◌, ◌<◌, ◌≤◌, Bool, true, false, List, [], ◌∷◌, ◌++◌, length, length-append, map, get_or, take, drop, append-nil, take-append-drop, refl, sym, ◌∙◌, ap, subst, arith}
use Rattle.std.proofs.lemmas.List.{take_more}
use Rattle.sp_io.specs.Outside.{ToldFiles, SinkState, Gave}
use Rattle.sp_plan.specs.declared.plan.Plan.{Plan}
use Rattle.sp_plan.specs.declared.found.Match.{Match}
use Rattle.sp_plan.specs.Lines.{line, text}
use Rattle.sp_listing.specs.Limits.{listing_limit}
use Rattle.sp_listing.specs.Listing.{Entry, head_line, entry_text, listing_text, seen}
use Rattle.sp_listing.specs.declared.proof.WindowProof.{WindowProof}
use Rattle.sp_cert.specs.Proofs.{matches_of, proofs}
use Rattle.sp_cert.specs.Verdicts.{DiffersFirst}
use Rattle.sp_ports.specs.Stopping.{is_end}
use Rattle.sp_ports.specs.declared.stop.Stop.{Stop}
use Rattle.sp_ports.specs.declared.stop.Stop.TheVariants.{End, Failed, Open}
use Rattle.sp_load.specs.Places.{Place}
use Rattle.sp_load.specs.Queries.{RefusesText}
use Rattle.sp_load.specs.declared.refusal.Refusal.{Refusal}
use Rattle.sp_load.specs.declared.refusal.Refusal.TheVariants as r
use Rattle.sp_answer.specs.Outcome.{Outcome, ending, outcome, nothing_for, number_of}
use Rattle.sp_answer.specs.Ran.{Outside, ReadsNoFurther, Ran}
use Rattle.sp_answer.specs.declared.status.Status.{Status}
use Rattle.sp_answer.specs.declared.status.Status.TheVariants.{Memory, ListingWindow}
use Rattle.sp_answer.proofs.Answering.{cut_short}
use Rattle.sp_io.proofs.Grew.{grew_none}
use Rattle.sp_commands.specs.Check.{yes_line, ListingOutcome, stopped, right, wrong, IsPlanCheck, TextsOutcome, faulty, CheckOutcome, long_query, long_listing, of_texts, RefusesCheck}
use Rattle.sp_commands.specs.Ends.{Came, came, status_of_refusal}
use Rattle.sp_commands.specs.Given.{StopsInTime}
use Rattle.sp_commands.proofs.Came.{IsTold, came_told}
use Rattle.sp_commands.proofs.Differing.{same_or_differ}
use Rattle.sp_commands.proofs.TwoTexts.{FilesOutcome}
use Rattle.sp_commands.proofs.TwoTexts as files

-- ---- texts

-- the outcome of a check is one of two texts
pub check_of_files : (place : Place) (name : List ℕ) (held : ToldFiles) (b : List ℕ) (e : Bool) (o : Outcome)
    → FilesOutcome listing_limit TextsOutcome place name held b e o → CheckOutcome place name held b e o
check_of_files place name held b e _ (files.long_query long) = long_query long
check_of_files place name held b e _ (files.long_file text has longer) = long_listing text has longer
check_of_files place name held b e _ (files.of_texts text content o has holds is) = of_texts text content o has holds is

pub files_of_check : (place : Place) (name : List ℕ) (held : ToldFiles) (b : List ℕ) (e : Bool) (o : Outcome)
    → CheckOutcome place name held b e o → FilesOutcome listing_limit TextsOutcome place name held b e o
files_of_check place name held b e _ (long_query long) = files.long_query long
files_of_check place name held b e _ (long_listing text has longer) = files.long_file text has longer
files_of_check place name held b e _ (of_texts text content o has holds is) = files.of_texts text content o has holds is

-- a fault of the query's text refuses the texts
pub query_faulty : (text content : List ℕ) (refusal : Refusal) (s : Status) → s ≡ status_of_refusal refusal → RefusesText text refusal → RefusesCheck text content s
query_faulty text content r.Memory s is refuses = inl is
query_faulty text content (r.Query code at) s is refuses = inr (λ b e. subst (λ (u : Status). TextsOutcome text content b e (nothing_for u)) (sym is) (faulty code at refuses))
query_faulty text content r.Read s is refuses = absurd refuses
query_faulty text content (r.Limited limit) s is refuses = absurd refuses

-- ---- how many matches a listing has

-- a line is not empty, so a listing has no more matches than bytes
lines_some : (q : Plan) (ms : List Match) → length ms ≤ length (text q ms)
lines_some q [] = omega arith
lines_some q (m ∷ ms) =
    let one : length (text q (m ∷ ms)) ≡ length (line q m) + length (text q ms) = length-append (line q m) (text q ms) in
    omega (arith, one, lines_some q ms, line_some q m)
  where
    line_some : (q : Plan) (m : Match) → 1 ≤ length (line q m)
    line_some q m = omega arith

entry_some : (q : Plan) (e : Entry) → length e.matches ≤ length (entry_text q e)
entry_some q e = omega (arith, length-append (head_line e) (text q e.matches), lines_some q e.matches)

pub few_matches : (q : Plan) (entries : List Entry) → length (matches_of entries) ≤ length (listing_text q entries)
few_matches q [] = omega arith
few_matches q (e ∷ es) =
    omega (arith, length-append e.matches (matches_of es), length-append (entry_text q e) (listing_text q es), entry_some q e, few_matches q es)

-- how many matches the entries have
abbrev pub count_of : List WindowProof → ℕ
count_of ps = length (matches_of (map seen ps))

count_append : (ps rs : List WindowProof) → count_of (ps ++ rs) ≡ count_of ps + count_of rs
count_append [] rs = omega arith
count_append (p ∷ ps) rs =
    omega (arith, length-append p.matches.items (matches_of (map seen (ps ++ rs))), length-append p.matches.items (matches_of (map seen ps)), count_append ps rs)

-- one entry more
module _ (ps : List WindowProof) (i : ℕ) (p : WindowProof) (inside : i < length ps) (is : p ≡ get_or ps i p) where
  pub count_more : count_of (take (i + 1) ps) ≡ count_of (take i ps) + length p.matches.items
  count_more =
      let one : count_of (get_or ps i p ∷ []) ≡ length p.matches.items =
      ap length (append-nil (get_or ps i p).matches.items) ∙ ap (λ (x : WindowProof). length x.matches.items) (sym is) in
      ap count_of (take_more ps i p inside) ∙ count_append (take i ps) (get_or ps i p ∷ []) ∙ ap (λ (n : ℕ). count_of (take i ps) + n) one

  pub count_within : count_of (take i ps) + length p.matches.items ≤ count_of ps
  count_within = omega (arith, count_more, ap count_of (take-append-drop (i + 1) ps), count_append (take (i + 1) ps) (drop (i + 1) ps))

-- ---- what entries come to

-- a reading whose status is not one of success was not to the end
pub not_end : {ended : Bool} (c : Came) → IsTold ended c → number_of c.status ≢ 0 → is_end c.stop ≡ false
not_end c told other = by c.stop refl
  where
    by : (stop : Stop) → c.stop ≡ stop → is_end c.stop ≡ false
    by End is = absurd (other (told.done is))
    by (Failed failure) is = ap is_end is
    by Open is = ap is_end is

module _ (q : Plan) (entries : List Entry) where
  -- they come to something
  pub some_outcome : (c : Came) → (o : Outcome) × ListingOutcome q entries c o
  some_outcome c = by (is_end c.stop) refl (same_or_differ entries (proofs q c.events true))
    where
      by : (end : Bool) → is_end c.stop ≡ end → (entries ≡ proofs q c.events true) ⊎ ((n : ℕ) × DiffersFirst entries (proofs q c.events true) n) → (o : Outcome) × ListingOutcome q entries c o
      by false early found = (nothing_for c.status, stopped early)
      by true end (inl same) = (outcome c.status (yes_line entries), right end same)
      by true end (inr at) = (nothing_for (ListingWindow at.0), wrong at.0 end at.1)

  -- input that goes on is read for more
  pub no_further_check : (taken : List ℕ) → StopsInTime (came q) taken → ReadsNoFurther (IsPlanCheck q entries) taken
  no_further_check taken in_time =
      let open_ : (came q in_time.front false).stop ≡ Open = (came_told q in_time.front false).only_open in_time.goes_on in
      record {
        front = in_time.front;
        piece = in_time.piece;
        are = in_time.are;
        short = in_time.short;
        outcome = nothing_for (came q in_time.front false).status;
        goes_on = stopped (ap is_end open_);
        is_open = in_time.goes_on;
      }

  module _ (old new : Outside) (taken : List ℕ) (gave : Gave old.input.left taken new.input.left) (in_time : StopsInTime (came q) taken) where
    -- memory ran out before anything was written
    pub unchecked : new.out ≡ old.out → Ran (IsPlanCheck q entries) old new (ending Memory)
    unchecked same =
        let some = some_outcome (came q taken new.input.ended) in
        cut_short (IsPlanCheck q entries) old new taken some.0 gave some.1 (no_further_check taken in_time) same

    module _ (c : Came) (is : c ≡ came q taken new.input.ended) where
      pub told : IsTold new.input.ended c
      told = subst (IsTold new.input.ended) (sym is) (came_told q taken new.input.ended)

      -- what came of the bytes has an outcome of the check
      pub comes_to : (o : Outcome) → ListingOutcome q entries c o → IsPlanCheck q entries taken new.input.ended o
      comes_to o comes = subst (λ (x : Came). ListingOutcome q entries x o) is comes

      -- a window is told at which the entries differ
      pub told_wrong : (window : ℕ) → is_end c.stop ≡ true → DiffersFirst entries (proofs q c.events true) window → (old.input.faults < new.input.faults → c.stop ≡ Open) → new.out ≡ old.out
          → Ran (IsPlanCheck q entries) old new (ending (ListingWindow window))
      told_wrong window end differ rose_told same = record {
        taken = taken;
        outcome = nothing_for (ListingWindow window);
        gave = gave;
        is = comes_to (nothing_for (ListingWindow window)) (wrong window end differ);
        no_further = no_further_check taken in_time;
        exact = λ _ _. (refl, rw same (grew_none old.out.held));
        cut_off = ⊎_elim (λ e. cc e) (λ e. cc e);
        read_whole = λ e. absurd (omega (arith, e));
        read_fault = λ e. absurd (cc e);
        write_fault = λ e. absurd (cc e);
        read_told = λ rose. absurd (let open_ : is_end Open ≡ true = subst (λ (stop : Stop). is_end stop ≡ true) (rose_told rose) end in cc open_);
        write_told = λ rose. absurd (omega (arith, rose, ap (λ (s : SinkState). s.faults) same));
      }
