-- `numbers::guess` meets its contract. The shifts are the piece, p times its middle's root and n / p, and no product reaches 64 bits.
use mathlib.Core.Path.{◌≡◌, refl, ap, ◌∙◌}
use Rattle.numbers.specs.Improvements.{scale, piece, middle_root, reciprocal, guess}
use Rattle.numbers.proofs.CloseGuess.{within_piece, piece_shifted, piece_entry, root_shifted, guess_fits}
use Rattle.std.proofs.Common.{ℕ}
use Rattle.numbers.proofs.guess.Goals as goal
use Rattle.numbers.proofs.guess.Goals.{After-from-2}

-- the two of the piece's entry
root_read : (c : After-from-2) → c.from.result ≡ middle_root (piece c.args.n)
root_read c =
    c.from.ensures ∙ ap (λ (e : ℕ × ℕ). e.0) (piece_entry c.args.n c.requires c.ranges.n.fits _ _ _ c.tangents.ensures c.zero_pairs-pairs.ensures)

reciprocal_read : (c : After-from-2) → c.from-2.result ≡ reciprocal (piece c.args.n)
reciprocal_read c =
    c.from-2.ensures ∙ ap (λ (e : ℕ × ℕ). e.1) (piece_entry c.args.n c.requires c.ranges.n.fits _ _ _ c.tangents.ensures c.zero_pairs-pairs.ensures)

pub overflow_sub-middle_root : goal.overflow_sub-middle_root
overflow_sub-middle_root c =
    rw (c.zero_pairs-pairs.ensures, piece_shifted c.args.n c.requires c.ranges.n.fits) (within_piece c.args.n c.requires c.ranges.n.fits).least

pub overflow_mul-result : goal.overflow_mul-result
unfolding scale
overflow_mul-result c = record { fits = rw (reciprocal_read c, c.zero_pairs-pairs.ensures) (guess_fits c.args.n c.requires c.ranges.n.fits).1 }

pub overflow_add-result : goal.overflow_add-result
unfolding scale
overflow_add-result c = record {
  fits =
      rw (root_read c, reciprocal_read c, c.zero_pairs-pairs.ensures, root_shifted c.args.n c.requires c.ranges.n.fits)
      (guess_fits c.args.n c.requires c.ranges.n.fits).2;
}

pub returns : goal.returns
unfolding scale guess
returns c = rw (root_read c, reciprocal_read c, c.zero_pairs-pairs.ensures, root_shifted c.args.n c.requires c.ranges.n.fits) refl
