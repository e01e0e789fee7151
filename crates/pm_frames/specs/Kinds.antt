-- The kinds and the sizes of the frames of a market across machines, beside those of a stream of bids (1 to 8). The first byte tells the
-- kind; a size counts it too.
use Rattle.std.specs.Prelude.{ℕ}

abbrev pub send_kind : ℕ
send_kind = 9

abbrev pub send_size : ℕ
send_size = 1

abbrev pub window_full_kind : ℕ
window_full_kind = 10

abbrev pub dropped_kind : ℕ
dropped_kind = 11

abbrev pub dropped_size : ℕ
dropped_size = 9

abbrev pub offer_kind : ℕ
offer_kind = 13

abbrev pub leave_kind : ℕ
leave_kind = 14

abbrev pub leave_size : ℕ
leave_size = 1

abbrev pub setpoint_kind : ℕ
setpoint_kind = 15

abbrev pub setpoint_size : ℕ
setpoint_size = 15

abbrev pub not_caught_up_kind : ℕ
not_caught_up_kind = 17

abbrev pub out_of_numbers_kind : ℕ
out_of_numbers_kind = 18

abbrev pub expire_kind : ℕ
expire_kind = 19

abbrev pub expire_size : ℕ
expire_size = 3

abbrev pub limits_kind : ℕ
limits_kind = 20

abbrev pub limits_size : ℕ
limits_size = 13

abbrev pub bound_kind : ℕ
bound_kind = 21

abbrev pub bound_size : ℕ
bound_size = 11

abbrev pub too_much_kind : ℕ
too_much_kind = 22

abbrev pub too_much_size : ℕ
too_much_size = 7

abbrev pub price_kind : ℕ
price_kind = 23

abbrev pub price_size : ℕ
price_size = 23

abbrev pub other_basis_kind : ℕ
other_basis_kind = 24

abbrev pub other_basis_size : ℕ
other_basis_size = 9

abbrev pub resume_kind : ℕ
resume_kind = 25

abbrev pub resume_gone_kind : ℕ
resume_gone_kind = 26

-- and of an agent's Resume without its demands
abbrev pub resume_gone_size : ℕ
resume_gone_size = 19

abbrev pub out_of_limits_kind : ℕ
out_of_limits_kind = 27

abbrev pub out_of_limits_size : ℕ
out_of_limits_size = 5

abbrev pub kind_kind : ℕ
kind_kind = 29

abbrev pub kind_size : ℕ
kind_size = 22

abbrev pub state_kind : ℕ
state_kind = 30

abbrev pub state_size : ℕ
state_size = 5

-- the kind of points is this number and how many there are
abbrev pub points_kind : ℕ
points_kind = 128

-- a Resume of a relay, and of an auctioneer, without the numbers of its children, of which each has 4 bytes
abbrev pub relay_resume_head_size : ℕ
relay_resume_head_size = 41

abbrev pub root_resume_head_size : ℕ
root_resume_head_size = 15
