use Rattle.sp_threads.proofs.waking.a_seat_that_waits_is_woken_for_the_first_job.Given as goal

abbrev pub ghosts-meet-L-Naming : goal.ghosts-meet-L-Naming
ghosts-meet-L-Naming g a = record { table = a.opened.table }

abbrev pub ghosts-meet-L-Ledger : goal.ghosts-meet-L-Ledger
ghosts-meet-L-Ledger g a = record { name = a.opened.name; parts = a.opened.parts }
