-- What a module type owes to the chain, the record and the demands: each type exports one value of this.
use Rattle.std.specs.Prelude.{◌≡◌, ℕ, ◌+◌, ◌<◌, ◌≤◌, List, [], ◌∷◌, true, length, get_or}
use Rattle.base_layout.specs.Bytes.{pasted, Bytes}
use Rattle.line_receiver.specs.Receive.{total}
use Rattle.module_rules.specs.declared.Station.{Station}
use Rattle.module_rules.specs.Report.{Fit}
use Rattle.module_rules.specs.Slot.{station}
use Rattle.module_rules.specs.Slots.{Slots, Lawful, slot_size, station_at}
use Rattle.module_rules.specs.Rules.{Meaning, unknown, takes, Rules}
use Rattle.module_rules.specs.Promises.{Apart, Unseen}

-- the greatest length of a reply
abbrev pub reply_size : ℕ
reply_size = 19

-- no item has more than four bytes
abbrev pub AtMostFour : List ℕ → Type 0
AtMostFour [] = Unit {0}
AtMostFour (k ∷ ks) = (k ≤ 4) × AtMostFour ks

module _ {M S C : Type 0} (T : Rules M S C) (L : Slots M) (Good : S → Type 0) where
  -- a command whose values are good and that can be carried out keeps every module such as a slot can hold
  abbrev pub Safe : Meaning C → Type 0
  Safe unknown = Unit {0}
  Safe (takes count good c) = good ≡ true → (m : M) → L.fits m → T.can c m ≡ true → L.fits (T.perform c m)

  pub record Owes : Type 0 where
    -- the station stands apart, and nothing else looks at it
    pub apart : Apart T
    pub unseen : Unseen T
    -- slots are lawful; they begin with the type's number, and the station comes next
    pub lawful : Lawful L
    -- all modules of the type have as many bytes
    pub sized : (m n : M) → length (L.enc m) ≡ length (L.enc n)
    pub begins : (m : M) (s : List ℕ) → get_or (pasted 0 (L.enc m) s) 0 0 ≡ T.number
    pub typed : (s : List ℕ) → L.ok s ≡ true → get_or s 0 0 ≡ T.number
    pub stationed : (s : List ℕ) → T.station (L.dec s) ≡ station.codec.dec station_at s
    -- a station put alone into a valid slot is as good as the module with that station put there
    pub alone : (x : Station) (s : List ℕ) → length s ≡ slot_size → Bytes s → L.ok s ≡ true
        → pasted 0 (L.enc (T.with_station x (L.dec s))) s ≡ pasted station_at (station.codec.enc x) s
    -- what a slot can hold is never left
    pub power : L.fits T.started
    pub held : (m : M) → L.fits m → station.codec.fits (T.station m)
    pub shown : (m : M) → L.fits m → T.shows (T.station m).items ≡ true
    pub with_station : (s : Station) (m : M) → station.codec.fits s → T.shows s.items ≡ true → L.fits m → L.fits (T.with_station s m)
    pub renewed : (m : M) → L.fits m → L.fits (T.renewed m)
    pub own : (code : ℕ) (ds : List ℕ) → Bytes ds → Safe (T.own code ds)
    pub tick : (x : S) (m : M) → Good x → L.fits m → L.fits (T.tick x m)
    -- there are eight items of at most four bytes; a reply fits into its greatest length, and spells the status byte and every number whole
    pub eight : length T.sizes ≡ 8
    pub four : AtMostFour T.sizes
    pub small : total T.sizes + 2 ≤ reply_size
    pub status : (m : M) → T.status m < 256
    pub numbers : (m : M) → L.fits m → Fit T.sizes (T.numbers m)
    -- what is driven is eight bytes
    pub outputs : (m : M) → L.fits m → (length (T.outputs m) ≡ 8) × Bytes (T.outputs m)
