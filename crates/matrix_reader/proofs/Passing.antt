-- One pass over the lines comes to what the entries come to one by one. Assumes nothing.
use mathlib.Core.Path.{◌≡◌, refl, sym, ap, ◌∙◌}
use mathlib.Core.Bool.{Bool, true, false, not, cond, ◌||◌}
use mathlib.Core.List.{List, [], ◌∷◌, ◌++◌}
use Prim.Native.Nat.{ℕ}
use lib.Dec.{eqb, ltb}
use lib.ListN.{length}
use Rattle.std.specs.Prelude.{Float, Result, Ok, Err}
use Rattle.refusal.specs.Outcome.{accepted, refused, ask, ◌>>=◌}
use Rattle.refusal.specs.Refusal.{bad_matrix_file, bad_number}
use Rattle.matrix_market.specs.declared.placed.PlacedError.{PlacedError}
use Rattle.matrix_market.specs.Placed.{placed_in}
use Rattle.coordinate.specs.Coordinate.{Entry, repeated}
use Rattle.matrix_reader.specs.File.{Stated, entry_after, entries_from}
use Rattle.matrix_reader.specs.Steps.{malformed, no_value, pass_line, pass_from, verdict_for}
use Rattle.matrix_reader.proofs.Repeats.{stands, free_not, repeated_more}

module _ (symmetric : Bool) (s : Stated) where
  -- once a place is repeated, 38 comes of it
  pass_repeated : (es : List Entry) (lines : List (List ℕ)) → repeated es ≡ true → verdict_for s (pass_from symmetric s es lines) ≡ refused bad_matrix_file
  unfolding pass_from
  pass_repeated es [] h = ap (λ (t : Bool). ask (not t) bad_matrix_file (ask (eqb (length es) s.entries) bad_matrix_file (accepted es))) h
  pass_repeated es (line ∷ rest) h = go (ltb (length es) s.entries) (placed_in symmetric s.rows line) (λ fs. pass_repeated fs rest)
    where
      more : (e : Entry) → repeated (es ++ (e ∷ [])) ≡ true
      more e = repeated_more es e ∙ ap (λ (t : Bool). t || stands e.row e.column es) h

      go : (t : Bool) (p : Result (ℕ × ℕ × Float) PlacedError) → ((fs : List Entry) → repeated fs ≡ true → verdict_for s (pass_from symmetric s fs rest) ≡ refused bad_matrix_file)
          → verdict_for s (cond t (pass_line es (λ fs. pass_from symmetric s fs rest) p) malformed) ≡ refused bad_matrix_file
      go false p on = refl
      go true (Err PlacedError.Malformed) on = refl
      go true (Err (PlacedError.BadValue r c)) on = ap (λ (t : Bool). ask (not t) bad_matrix_file (refused bad_number)) (more (record { row = r; column = c; value = no_value }))
      go true (Ok (r, c, v)) on = on (es ++ (record { row = r; column = c; value = v } ∷ [])) (more (record { row = r; column = c; value = v }))

  -- the entries one by one are the pass, with repeats looked for behind it
  pub pass_is : (es : List Entry) (lines : List (List ℕ)) → repeated es ≡ false → entries_from symmetric s es lines ≡ verdict_for s (pass_from symmetric s es lines)
  unfolding pass_from entries_from
  pass_is es [] h = ap (λ (t : Bool). ask (not t) bad_matrix_file (ask (eqb (length es) s.entries) bad_matrix_file (accepted es))) (sym h)
  pass_is es (line ∷ rest) h = go (ltb (length es) s.entries) (placed_in symmetric s.rows line) (λ fs. pass_is fs rest)
    where
      more : (e : Entry) → repeated (es ++ (e ∷ [])) ≡ stands e.row e.column es
      more e = repeated_more es e ∙ ap (λ (t : Bool). t || stands e.row e.column es) h

      entry : (e : Entry) (t : Bool) → stands e.row e.column es ≡ t → ((fs : List Entry) → repeated fs ≡ false → entries_from symmetric s fs rest ≡ verdict_for s (pass_from symmetric s fs rest))
          → ◌>>=◌ (ask (not t) bad_matrix_file (accepted e)) (λ f. entries_from symmetric s (es ++ (f ∷ [])) rest) ≡ verdict_for s (pass_from symmetric s (es ++ (e ∷ [])) rest)
      entry e true x on = sym (pass_repeated (es ++ (e ∷ [])) rest (more e ∙ x))
      entry e false x on = on (es ++ (e ∷ [])) (more e ∙ x)

      bad : (t : Bool) → ◌>>=◌ {A = Entry} (ask (not t) bad_matrix_file (refused bad_number)) (λ f. entries_from symmetric s (es ++ (f ∷ [])) rest) ≡ ask (not t) bad_matrix_file (refused bad_number)
      bad true = refl
      bad false = refl

      go : (t : Bool) (p : Result (ℕ × ℕ × Float) PlacedError) → ((fs : List Entry) → repeated fs ≡ false → entries_from symmetric s fs rest ≡ verdict_for s (pass_from symmetric s fs rest))
          → ask t bad_matrix_file (◌>>=◌ (entry_after es p) (λ f. entries_from symmetric s (es ++ (f ∷ [])) rest)) ≡ verdict_for s (cond t (pass_line es (λ fs. pass_from symmetric s fs rest) p) malformed)
      go false p on = refl
      go true (Err PlacedError.Malformed) on = refl
      go true (Err (PlacedError.BadValue r c)) on =
          ap (λ (t : Bool). ◌>>=◌ {A = Entry} (ask t bad_matrix_file (refused bad_number)) (λ f. entries_from symmetric s (es ++ (f ∷ [])) rest)) (free_not r c es)
          ∙ bad (stands r c es)
          ∙ ap (λ (t : Bool). ask (not t) bad_matrix_file (refused bad_number)) (sym (more (record { row = r; column = c; value = no_value })))
      go true (Ok (r, c, v)) on =
          ap (λ (t : Bool). ◌>>=◌ (ask t bad_matrix_file (accepted (record { row = r; column = c; value = v }))) (λ f. entries_from symmetric s (es ++ (f ∷ [])) rest)) (free_not r c es)
          ∙ entry (record { row = r; column = c; value = v }) (stands r c es) refl on
