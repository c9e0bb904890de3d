mod Bridge
mod Closed
mod Complete
mod Samples
mod Scanned
mod Words
