-- What the calls on a slot of any type put there, put together: where only the station changes, it is put alone. Assumes nothing.
use mathlib.Core.Path.{◌≡◌, refl, sym, ap, ap₂, subst, ◌∙◌}
use mathlib.Core.List.{List}
use mathlib.Core.Bool.{Bool, true, false, cond}
use Prim.Native.Nat.{ℕ}
use lib.ListN.{length}
use Rattle.base_layout.specs.Bytes.{pasted, Bytes}
use Rattle.line_receiver.specs.Frames.{Frame}
use Rattle.module_rules.specs.declared.Address.{Address}
use Rattle.module_rules.specs.declared.Station.{Station}
use Rattle.module_rules.specs.declared.Setting.{Setting}
use Rattle.module_rules.specs.declared.Fault.{Fault}
use Rattle.module_rules.specs.Touch.{individually, speaks}
use Rattle.module_rules.specs.Commands.{applied, caused}
use Rattle.module_rules.specs.Slot.{address, station}
use Rattle.module_rules.specs.Kind.{executed, replied}
use Rattle.module_rules.specs.Slots.{Slots, slot_size, station_at}
use Rattle.module_rules.specs.Rules.{Request, malformed, set, wants, fault_cause, Rules, with_cause, request, settled, execute, reply, kind_of}
use Rattle.module_rules.specs.Owes.{Owes}
use Rattle.module_rules.proofs.Slotted as Slotted
use Rattle.module_rules.proofs.Settled.{settles, cause}
use Rattle.module_rules.proofs.Kept.{preserves}

module _ {M S C : Type 0} (T : Rules M S C) (L : Slots M) (Good : S → Type 0) (o : Owes T L Good) (s : List ℕ) (long : length s ≡ slot_size)
    (bytes : Bytes s) (ok : L.ok s ≡ true) where
  abbrev before : M
  before = L.dec s

  -- the station that is read from the slot
  told : {x : Station} → x ≡ station.codec.dec station_at s → x ≡ T.station before
  told p = p ∙ sym (o.stationed s)

  -- a station put alone
  put_alone : (z : Station) {y : Station} {s' : List ℕ} → y ≡ z → s' ≡ pasted station_at (station.codec.enc y) s
      → s' ≡ pasted 0 (L.enc (T.with_station z before)) s
  put_alone z e p = p ∙ ap (λ (y : Station). pasted station_at (station.codec.enc y) s) e ∙ sym (o.alone z s long bytes ok)

  -- a module put whole that is another's equal
  put_whole : {m n : M} {s' : List ℕ} → n ≡ m → s' ≡ pasted 0 (L.enc n) s → s' ≡ pasted 0 (L.enc m) s
  put_whole e p = p ∙ ap (λ (m : M). pasted 0 (L.enc m) s) e

  -- an own command, by whether it can be carried out now
  abbrev wanted : C → Bool → M
  wanted c t = cond t (with_cause T 0 (T.perform c before)) (with_cause T 3 before)

  pub obeyed : (c : C) {n : M} {s' : List ℕ} → T.can c before ≡ true → n ≡ T.perform c before → s' ≡ pasted 0 (L.enc (with_cause T 0 n)) s
      → s' ≡ pasted 0 (L.enc (settled T (wants c) before)) s
  obeyed c t e p = put_whole (ap (with_cause T 0) e ∙ sym (ap (wanted c) t)) p

  pub not_now : (c : C) {x y : Station} {s' : List ℕ} → T.can c before ≡ false → x ≡ station.codec.dec station_at s → y ≡ caused 3 x
      → s' ≡ pasted station_at (station.codec.enc y) s
      → s' ≡ pasted 0 (L.enc (settled T (wants c) before)) s
  not_now c t ex ey p = put_whole (sym (ap (wanted c) t)) (put_alone (caused 3 (T.station before)) (ey ∙ ap (caused 3) (told ex)) p)

  module _ (f : Frame) (alone : Bool) where
    -- the slot after the frame
    abbrev After : List ℕ → Type 0
    After s' = s' ≡ pasted 0 (L.enc (execute T f alone before)) s

    pub damaged-put : {x y : Station} {s' : List ℕ} → f.damaged ≡ true → x ≡ station.codec.dec station_at s → y ≡ caused 1 x
        → s' ≡ pasted station_at (station.codec.enc y) s
        → After s'
    damaged-put d ex ey p =
        put_whole (sym ((cause T o.apart f alone before).damaged d)) (put_alone (caused 1 (T.station before)) (ey ∙ ap (caused 1) (told ex)) p)

    module _ (d : f.damaged ≡ false) where
      pub asked-put : {q : Request C} {n : M} {s' : List ℕ} → request T f alone ≡ q → n ≡ settled T q before → s' ≡ pasted 0 (L.enc n) s → After s'
      asked-put q e p = put_whole (e ∙ sym (settles T f alone before d q)) p

      pub malformed-put : (z : Fault) {x y : Station} {c : ℕ} {s' : List ℕ} → request T f alone ≡ malformed z → x ≡ station.codec.dec station_at s
          → c ≡ fault_cause z
          → y ≡ caused c x
          → s' ≡ pasted station_at (station.codec.enc y) s
          → After s'
      malformed-put z q ex ec ey p =
          let c : ℕ = fault_cause z in
          asked-put q refl (put_alone (caused c (T.station before)) (ey ∙ ap₂ caused ec (told ex)) p)

      pub set-put : (z : Setting) {x y w : Station} {s' : List ℕ} → request T f alone ≡ set z → x ≡ station.codec.dec station_at s → y ≡ applied z x
          → w ≡ caused 0 y
          → s' ≡ pasted station_at (station.codec.enc w) s
          → After s'
      set-put z q ex ey ew p =
          let a : Station = applied z (T.station before) in
          let once : with_cause T 0 (T.with_station a before) ≡ T.with_station (caused 0 a) before =
          ap (λ (x : Station). T.with_station (caused 0 x) (T.with_station a before)) (o.apart.put a before) ∙ o.apart.again (caused 0 a) a before in
          asked-put q (sym once) (put_alone (caused 0 a) (ew ∙ ap (caused 0) (ey ∙ ap (applied z) (told ex))) p)

    -- the slot is valid then, and holds what the frame made
    module _ (content : Bytes f.content) {s' : List ℕ} (p : After s') where
      fits : L.fits (execute T f alone before)
      fits = (preserves T L Good o).execute f alone before content (o.lawful.sound s long bytes ok)

      pub still-ok : L.ok s' ≡ true
      still-ok = ap L.ok p ∙ o.lawful.valid (execute T f alone before) s long fits

      pub read_back : L.dec s' ≡ execute T f alone before
      read_back = ap L.dec p ∙ o.lawful.back (execute T f alone before) s long fits

  -- who the module is comes from its slot, and its reply from the slot after the frame
  module _ (f : Frame) (room : List ℕ) (from : ℕ) {w : Address} {t u : Bool} {s' : List ℕ} (ew : w ≡ address.codec.dec station_at s)
      (et : t ≡ individually f.address w) (es : s' ≡ pasted 0 (L.enc (execute T f t before)) s) (eu : u ≡ speaks f.address w) where
    who : w ≡ (T.station before).address
    who = ew ∙ ap (λ (x : Station). x.address) (sym (o.stationed s))

    pub spoken : Bytes f.content → u ≡ true → {r : ℕ} {room' : List ℕ}
        → (r ≡ length (reply T f (L.dec s'))) × (room' ≡ pasted from (reply T f (L.dec s')) room)
        → (r ≡ length (replied (kind_of T) f before))
        × ((s' ≡ pasted 0 (L.enc (executed (kind_of T) f before)) s) × (room' ≡ pasted from (replied (kind_of T) f before) room))
    spoken content e {r} {room'} p =
        let back = read_back f t content es in
        Slotted.spoken (kind_of T) L.enc L.dec f s room from refl (et ∙ ap (individually f.address) who) refl es (eu ∙ ap (speaks f.address) who) e
        (subst (λ (m : M). (r ≡ length (reply T f m)) × (room' ≡ pasted from (reply T f m) room)) back p)

    pub silent : u ≡ false
        → (0 ≡ length (replied (kind_of T) f before))
        × ((s' ≡ pasted 0 (L.enc (executed (kind_of T) f before)) s) × (room ≡ pasted from (replied (kind_of T) f before) room))
    silent e =
        Slotted.silent (kind_of T) L.enc L.dec f s room from refl (et ∙ ap (individually f.address) who) refl es (eu ∙ ap (speaks f.address) who) e
