-- Document 01 has one cause, 2, for all that can't be read; document 02, P1, has three. What a module is with document 01's numbering, and that
-- nothing but the number differs. Proved under its name, with small letters, in proofs/, of every type that owes `Apart` and `Unseen`.
use Rattle.std.specs.Prelude.{◌≡◌, ℕ, Bool, cond, ◌||◌, eqb}
use Rattle.line_receiver.specs.Frames.{Frame}
use Rattle.module_rules.specs.Kind.{Kind, Along}
use Rattle.module_rules.specs.Rules.{Request, malformed, set, reset, wants, Rules, with_cause, request, settled, reply, kind_of}

-- document 01's number for a cause
abbrev pub older_number : ℕ → ℕ
older_number c = cond (eqb c 4 || eqb c 5) 2 c

module _ {M S C : Type 0} (T : Rules M S C) where
  -- a module with document 01's number for its cause
  abbrev pub as_older : M → M
  as_older m = with_cause T (older_number (T.station m).cause) m

  -- 01 Who is touched: 1 damaged, 2 malformed, 3 not now
  abbrev pub older_settled : Request C → M → M
  older_settled (malformed x) m = with_cause T 2 m
  older_settled (set s) m = settled T (set s) m
  older_settled reset m = settled T reset m
  older_settled (wants c) m = settled T (wants c) m

  abbrev pub older_execute : Frame → Bool → M → M
  older_execute f alone m = cond f.damaged (with_cause T 1 m) (older_settled (request T f alone) m)

  -- the type with document 01's numbering
  abbrev pub older_kind : Kind M S
  older_kind = record {
    address = λ m. (T.station m).address;
    execute = older_execute;
    reply = reply T;
    tick = T.tick;
  }

  -- Through frames and ticks a module with document 01's number stays the same module with document 01's number; it replies and drives
  -- the same.
  pub record Renumbered : Type 0 where
    pub along : Along (kind_of T) older_kind as_older
    pub outputs : (m : M) → T.outputs (as_older m) ≡ T.outputs m
