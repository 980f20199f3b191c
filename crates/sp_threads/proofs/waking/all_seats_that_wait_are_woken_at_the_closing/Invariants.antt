use Rattle.sp_threads.proofs.waking.all_seats_that_wait_are_woken_at_the_closing.Given as goal

abbrev pub ghosts-meet-L-Naming : goal.ghosts-meet-L-Naming
ghosts-meet-L-Naming g a = record { table = a.opened.table }

abbrev pub ghosts-meet-L-Ledger : goal.ghosts-meet-L-Ledger
ghosts-meet-L-Ledger g a = record { name = a.opened.name; parts = a.opened.parts }
