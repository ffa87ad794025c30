-- Read: what the writer writes is read back. It is the case of Marked without marks and with the right checksum. Assumes nothing.
use Rattle.std.proofs.Common.{◌≡◌, ℕ, suc, ◌+◌, ◌*◌, ◌/◌, ◌%◌, true, false, eqb, List, [], ◌∷◌, ◌++◌, length, sym, refl, ap, ◌∙◌, arith, eq-eqb}
use Rattle.line_receiver.specs.Receive.{sum8}
use Rattle.line_receiver.specs.Frames.{Byte, clean, values, any_mark}
use Rattle.line_receiver.specs.Promises.{Read}
use Rattle.line_receiver.proofs.Marked.{marked}

clean-unmarked : (xs : List ℕ) → any_mark (clean xs) ≡ false
clean-unmarked [] = refl
clean-unmarked (x ∷ xs) = clean-unmarked xs

clean-values : (xs : List ℕ) → values (clean xs) ≡ xs
clean-values [] = refl
clean-values (x ∷ xs) = ap (λ (l : List ℕ). x ∷ l) (clean-values xs)

clean-append : (xs ys : List ℕ) → clean (xs ++ ys) ≡ clean xs ++ clean ys
clean-append [] ys = refl
clean-append (x ∷ xs) ys = ap (λ (l : List Byte). record { value = x; mark = false } ∷ l) (clean-append xs ys)

clean-length : (xs : List ℕ) → length (clean xs) ≡ length xs
clean-length [] = refl
clean-length (x ∷ xs) = ap suc (clean-length xs)

pub read : Read
read address code ds ha hc hl =
    let n : ℕ = length ds in
    let c : ℕ = code + 16 * n in
    let s : ℕ = sum8 address c ds in
    let q : c / 16 ≡ n = omega arith in
    let w : c % 16 ≡ code = omega arith in
    let u : any_mark (clean ds ++ clean (s ∷ [])) ≡ false = rw (← clean-append ds (s ∷ [])) (clean-unmarked (ds ++ s ∷ [])) in
    let t : eqb s s ≡ true = eq-eqb s s refl in
    let byte : ℕ → Byte = λ x. record { value = x; mark = false } in
    let g = marked (byte address) (byte c) (clean ds) (byte s) (omega arith) (clean-length ds ∙ sym q) in
    rw clean-append (rw (w, u, clean-values ds, t) at g)
