mod Crossings
