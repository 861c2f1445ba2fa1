use Rattle.sw_tables.proofs.found.matched.Given as goal

abbrev pub ghosts-longest : goal.ghosts-longest
ghosts-longest a = record { name = a.blank.name; parts = a.blank.parts }
