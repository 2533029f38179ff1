-- The words of a part move up by one. Assumes nothing.
use Prim.Native.Nat.{ℕ, zero, suc, ◌+◌, ◌-◌, ◌≤◌, ◌<◌}
use native.Mathlib.Omega.{arith}
use mathlib.Core.Path.{◌≡◌, sym, ap, ◌∙◌}
use mathlib.Core.List.{List, [], ◌∷◌, ◌++◌, append_assoc}
use lib.ListN.{length, get_or, take, drop, set, length-append, length-drop}
use lib.Seq.{length-take-le, take-append-le, drop-append-le, drop-cons, set_at, paste, length_paste_head}
use Rattle.std.specs.List.{copy_within}
use Rattle.dataqueue.specs.Buffers.{close_up}

head_length : (n : ℕ) (ws : List ℕ) → 0 < n → n ≤ length ws → length (drop 1 (take n ws)) ≡ n - 1
head_length n ws h k = length-drop 1 (take n ws) ∙ ap (λ (m : ℕ). m - 1) (length-take-le n ws k)

pub close_length : (f n w : ℕ) (ws : List ℕ) → 0 < n → f + n ≤ length ws → length (close_up f n w ws) ≡ length ws
unfolding close_up
close_length zero n w ws h k =
    let a = length-append (drop 1 (take n ws)) (w ∷ drop n ws) in
    let b = head_length n ws h (omega arith) in
    let c = length-drop n ws in
    omega arith
close_length (suc f) n w [] h k = absurd (omega arith)
close_length (suc f) n w (x ∷ ws) h k = ap suc (close_length f n w ws h (omega arith))

-- the words before, those that move up, the last, and those behind
close_parts : (f n w : ℕ) (ws : List ℕ) → 0 < n → f + n ≤ length ws → close_up f n w ws ≡ (take f ws ++ take (n - 1) (drop (f + 1) ws)) ++ (w ∷ drop (f + n) ws)
unfolding close_up
close_parts zero zero w ws h k = absurd (omega arith)
close_parts zero (suc n) w [] h k = absurd (omega arith)
close_parts zero (suc n) w (x ∷ ws) h k =
    let a : n ≡ suc n - 1 = omega arith in
    let b : suc n ≡ 0 + suc n = omega arith in
    λ i. take (a i) ws ++ (w ∷ drop (b i) (x ∷ ws))
close_parts (suc f) n w [] h k = absurd (omega arith)
close_parts (suc f) n w (x ∷ ws) h k =
    let a : suc (f + 1) ≡ suc f + 1 = omega arith in
    let b : suc (f + n) ≡ suc f + n = omega arith in
    ap (λ (l : List ℕ). x ∷ l) (close_parts f n w ws h (omega arith)) ∙ (λ i. (x ∷ (take f ws ++ take (n - 1) (drop (a i) (x ∷ ws)))) ++ (w ∷ drop (b i) (x ∷ ws)))

-- the others are copied down by one, and then the last is written
pub close_copied : (f n w : ℕ) (ws : List ℕ) → 0 < n → f + n ≤ length ws → set (copy_within ws (f + 1) (f + n) f) (f + n - 1) w ≡ close_up f n w ws
close_copied f n w ws h k =
    let s = drop (f + 1) ws in
    let m : f + n - (f + 1) ≡ n - 1 = omega arith in
    let j : f + n - 1 ≡ f + (n - 1) = omega arith in
    let e : suc (f + (n - 1)) ≡ f + n = omega arith in
    let d = length-drop (f + 1) ws in
    let l : length (take f ws ++ take (n - 1) s) ≡ f + (n - 1) = length_paste_head ws f s (n - 1) (omega arith) (omega arith) in
    (λ i. set (paste ws f s (m i)) (j i) w)
    ∙ ap (λ (r : List ℕ). set ((take f ws ++ take (n - 1) s) ++ r) (f + (n - 1)) w) (drop-cons ws (f + (n - 1)) 0 (omega arith))
    ∙ set_at (take f ws ++ take (n - 1) s) (get_or ws (f + (n - 1)) 0) (drop (suc (f + (n - 1))) ws) w (f + (n - 1)) l
    ∙ ap (λ (i : ℕ). (take f ws ++ take (n - 1) s) ++ (w ∷ drop i ws)) e
    ∙ sym (close_parts f n w ws h k)

-- what stands behind the part, or before it, stays
pub close_append : (f n w : ℕ) (l r : List ℕ) → f + n ≤ length l → close_up f n w (l ++ r) ≡ close_up f n w l ++ r
unfolding close_up
close_append zero n w l r h =
    let a : take n (l ++ r) ≡ take n l = take-append-le n l r (omega arith) in
    let b : drop n (l ++ r) ≡ drop n l ++ r = drop-append-le n l r (omega arith) in
    (λ i. drop 1 (a i) ++ (w ∷ b i)) ∙ sym (append_assoc (drop 1 (take n l)) (w ∷ drop n l) r)
close_append (suc f) n w [] r h = absurd (omega arith)
close_append (suc f) n w (x ∷ l) r h = ap (λ (z : List ℕ). x ∷ z) (close_append f n w l r (omega arith))

pub close_past : (xs ys : List ℕ) (f m n w : ℕ) → length xs ≡ f → close_up (f + m) n w (xs ++ ys) ≡ xs ++ close_up m n w ys
unfolding close_up
close_past [] ys f m n w e = let z : f + m ≡ m = omega arith in ap (λ (k : ℕ). close_up k n w ys) z
close_past (x ∷ xs) ys zero m n w e = absurd (omega arith)
close_past (x ∷ xs) ys (suc f) m n w e =
    let g : suc f + m ≡ suc (f + m) = omega arith in
    ap (λ (k : ℕ). close_up k n w (x ∷ (xs ++ ys))) g ∙ ap (λ (l : List ℕ). x ∷ l) (close_past xs ys f m n w (omega arith))
