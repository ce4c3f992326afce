-- ---- what one half has sent
pub mod SentBytes
-- ---- what a writer has taken, one parcel longer
pub mod LongerTakings
-- ---- outputs that are joined
pub mod JoinedParcels
-- ---- what was handed over, one parcel longer
pub mod LongerLanes
-- ---- parcels that are handed over
pub mod HandedParcels
-- ---- what a writer has left
pub mod LeftLanes
