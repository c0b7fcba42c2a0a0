use Rattle.sftp_handles.proofs.Good.Pins.{pins-open_file, pins-open_listing, pins-listing_again, pins-close_file}
use Rattle.sftp_handles.proofs.Good.Pins.{pins-close_listing}
use Rattle.sftp_handles.proofs.pin_laws.pins_follow_handles.Goals as goal

pub returns : goal.returns
returns c = record {
  file = pins-open_file;
  listing = pins-open_listing;
  listing_again = pins-listing_again;
  file_closed = pins-close_file;
  listing_closed = pins-close_listing;
}
